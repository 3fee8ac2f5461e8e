use Rattle.std.proofs.Common.{◌∙◌, ◌≡◌, ap, arith, inl, inr, refl, rules, subst, sym}
use Rattle.dstm_attempts.specs.Attempts.{Begins, TakesEffect, attempt}
use Rattle.dstm_cells.specs.Attempts.{WasDisturbed}
use Rattle.dstm_cells.specs.Cells.{AreValues}
use Rattle.dstm_cells.specs.declared.under_way.Attempt.{Attempt as Tx}
use Rattle.dstm_attempts.proofs.Settling.{settles_right}
use Rattle.dstm_attempts.proofs.UnderWay.{nothing_twice}
use Rattle.dstm_cells.proofs.Reading.{disturbed_once}
use Rattle.dstm_cells.proofs.Spending.{begun_in_vain}
use Rattle.dstm_cells.proofs.Waiting.{nothing_added}
use Rattle.dstm_cells.proofs.under_way.Attempt.values.Goals.{in-Ok-all+in_default-commit_under, in-Err-Again}
use Rattle.dstm_cells.proofs.under_way.Attempt.values.Goals as goal

pub returns-in-Some-clause-reads : goal.returns-in-Some-clause-reads
returns-in-Some-clause-reads g c =
    let began = c.begin.new.self.attempts.caller in
    let ended = c.all.new.self.attempts.caller in
    let new = c.commit_under.new.self.caller in
    let begins : Begins g.L.Law.holds c.loop-reading.self.attempts.caller began = c.in-Ok.ensures.begins in
    let takes : TakesEffect g.L.Law.holds ended new = record { number = c.in-Some.number; takes = c.in-Some.ensures.takes } in (
      record {
        attempts = c.loop-reading._reading;
        before = c.loop-reading.self.attempts.caller;
        disturbed = c.loop-reading.invariant.2;
        began = began;
        begins = begins;
        last = ended;
        reads = c.in-Ok-all.ensures.in_turn;
        after = new;
        takes = takes;
        settles = settles_right g.L.Law.holds c.args.self.ghost_name c.args.self.now.attempts.caller
            c.loop-reading.self.attempts.caller began ended new
            c.loop-reading.invariant.0 begins c.in-Ok-all.ensures.keeps takes (AreValues c.in-Ok-all.values.items)
            (λ map may. let is = c.in-Ok-all.ensures.reads map may in (is, c.in-Ok-all.ensures.untouched map ∙ is));
      },
      refl,
      refl,
    )

pub loop-reading-init : goal.loop-reading-init
loop-reading-init g c = (nothing_added c.args.self.now.attempts.caller, omega arith, refl)

pub loop-reading-preserved : goal.loop-reading-preserved
loop-reading-preserved g c =
    let holds = g.L.Law.holds in
    let first = c.args.self.now.attempts.caller in
    let before = c.loop-reading.self.attempts.caller in
    let began = c.begin.new.self.attempts.caller in
    let begins : Begins holds before began = c.in-Ok.ensures.begins in
    let (nothing, more, disturbed) = c.loop-reading.invariant in
    let kept : attempt c.match-all.self.attempts.caller ≡ attempt c.all.new.self.attempts.caller =
    elim c.match-all.branch [
      | in-Ok-all+in_default-commit_under w ↦
          ap (λ (tx : Tx _ _ _ _). attempt tx.attempts.caller) w.self-is ∙ w.commit_under.ensures.keeps w.in_default-commit_under.is
      | in-Err-Again w ↦ ap (λ (tx : Tx _ _ _ _). attempt tx.attempts.caller) w.self-is
    ] in
    let once : WasDisturbed holds before c.match-all.self.attempts.caller =
    elim c.match-all.branch [
      | in-Ok-all+in_default-commit_under w ↦
          subst (λ (tx : Tx _ _ _ _). WasDisturbed holds before tx.attempts.caller) (sym w.self-is)
          (record {
            began = began;
            begins = begins;
            ends = inr (record {
              last = c.all.new.self.attempts.caller;
              reads = w.in-Ok-all.ensures.in_turn;
              keeps = w.commit_under.ensures.keeps w.in_default-commit_under.is;
              lost = w.commit_under.ensures.lost w.in_default-commit_under.is;
            });
          })
      | in-Err-Again w ↦
          subst (λ (tx : Tx _ _ _ _). WasDisturbed holds before tx.attempts.caller) (sym w.self-is)
          (record { began = began; begins = begins; ends = inl (search rules) })
    ] in
    let (still_nothing, one_more) =
    begun_in_vain holds first before began c.match-all.self.attempts.caller c.loop-reading._reading (nothing, more) begins
    (kept ∙ c.all.ensures.keeps) in (
      still_nothing,
      one_more,
      disturbed_once holds c.loop-reading._reading first before c.match-all.self.attempts.caller disturbed once,
    )

-- all attempts to read were made
pub returns-clause-unread : goal.returns-clause-unread
returns-clause-unread g c failed =
    let (nothing, begun, disturbed) = c.loop-reading.invariant in
    let all : c.loop-reading._reading ≡ 64 = omega (arith, c.loop-reading-test.false, c.loop-reading.auto._reading-end) in
    record {
      nothing = nothing;
      why = inr (omega (arith, begun, all));
      count = c.loop-reading._reading;
      last = c.loop-reading.self.attempts.caller;
      disturbed = disturbed;
      ends = inl (all, refl);
    }

-- no attempt is left
pub returns-in_default-clause-unread : goal.returns-in_default-clause-unread
returns-in_default-clause-unread g c failed =
    let (nothing, begun, disturbed) = c.loop-reading.invariant in
    record {
      nothing = nothing_twice c.args.self.now.attempts.caller c.loop-reading.self.attempts.caller c.begin.new.self.attempts.caller
          nothing c.begin.ensures.nothing;
      why = inl c.in_default.ensures.spent.1;
      count = c.loop-reading._reading;
      last = c.loop-reading.self.attempts.caller;
      disturbed = disturbed;
      ends = inr (c.in_default.ensures.unbegun, c.in_default.ensures.spent.1, c.in_default.ensures.none);
    }
