use Rattle.std.proofs.Common.{◌≡◌, ◌∙◌, Bool, List, Ok, ap, false, inl, inr, subst, true}
use Rattle.dstm_model.specs.declared.value.Val.{Val}
use Rattle.dstm_model.specs.declared.value.AnyLaw.{AnyLaw}
use Rattle.dstm_attempts.specs.Attempts.{LooksChanged, LooksSame}
use Rattle.dstm_attempts.proofs.UnderWay.{nothing_twice}
use Rattle.dstm_handles.proofs.Calling.{not_both}
use Rattle.dstm_handles.proofs.thread.Thread.look.Goals as goal

-- a look behind the letting go is at the same clock
pub returns-in-Ok-Same : goal.returns-in-Ok-Same
returns-in-Ok-Same c =
    let old = c.args.self.now in
    let first = c.let_go.new.self.tx.attempts.caller in
    let last = c.look_on.new.self.tx.attempts.caller in
    let before = c.let_go.ensures in
    let on = c.look_on.ensures in
    let lets_go = before.same (c.in-Ok-Same.is ∙ ap Ok c.in-Ok-Same.field-0-is) in
    record {
      same = λ h. record {
        first = first;
        lets_go = lets_go;
        looks = subst (λ since. LooksSame since first last) before.since (on.same h);
        once = on.once (inl h);
      };
      changed = λ h. inr (record {
        first = first;
        lets_go = lets_go;
        looks = subst (λ since. LooksChanged (λ (law : AnyLaw) (map : List Val). Unit {0}) since first last) before.since
            (on.changed h);
        once = on.once (inr h);
      });
      spent = λ h. inr (record { first = first; lets_go = lets_go; looks = on.spent h; unbegun = on.unbegun h });
      memory = λ h. absurd (on.only.0 h);
      waits = λ _. on.waits ∙ before.waits;
      since = on.since ∙ before.since;
      idle = λ none. absurd (not_both old.begun c.if-not-self.false none);
      still = λ none. absurd (not_both old.begun c.if-not-self.false none);
      tells = λ _. elim on.tells [
        | inl done ↦ inl done
        | inr (inl again) ↦ inr (inl again)
        | inr (inr spent) ↦ inr (inr (inl spent))
      ];
      begun = λ goes. on.begun goes ∙ before.begun;
      over = on.over;
      nothing = nothing_twice old.tx.attempts.caller first last before.nothing on.nothing;
    }
