use Rattle.std.proofs.Common.{rules, ◌∙◌, ◌≡◌, ap, None, sym}
use Rattle.std.specs.Prelude.{is_some}
use Rattle.dstm_mem.specs.Memory.{value_in}
use Rattle.dstm_tl2_engine.proofs.Opens.{held_opened, IsRead, none_some, no_slot_unheld, pushed_marks, pushed_opens, pushed_stays, pushed_steps, pushed_tied, pushed_value, put_held, read_before, read_by}
use Rattle.dstm_tl2_engine.specs.Callers.{TlCalled, held}
use Rattle.dstm_tl2_engine.proofs.caller.TlCaller.open_write.Goals as goal
use Rattle.dstm_tl2_engine.proofs.caller.TlCaller.open_write.Given.{Over}
use Rattle.dstm_tl2_engine.proofs.caller.TlCaller.open_write.Goals.{After-push_write, After-read, in-Some-read, in-None+in_ok-value-in-None}

pub returns-in-Some-clause-stays : goal.returns-in-Some-clause-stays
returns-in-Some-clause-stays g c =
    λ none. absurd (none_some (held c.args.self.now c.args.o) none (put_held c.self.invariant c.self.view_is c.args.o
    (ap is_some (sym c.write.ensures ∙ c.in-Some.is))))

pub returns-in-Some-clause-opens : goal.returns-in-Some-clause-opens
returns-in-Some-clause-opens g c =
    held_opened c.self.invariant c.self.view_is c.args.o (put_held c.self.invariant c.self.view_is c.args.o
    (ap is_some (sym c.write.ensures ∙ c.in-Some.is)))

unheld : (g : Over) (c : After-read g) → c.read.result ≡ None → held c.args.self.now c.args.o ≡ None
unheld g c none = no_slot_unheld c.self.invariant c.self.view_is c.args.o (sym c.read.ensures ∙ none)

pub read_first-requires-clause-unread : goal.read_first-requires-clause-unread
read_first-requires-clause-unread g c = unheld g (goal.at.read_first-requires-clause-unread g c).After-read c.in-None.is

pub returns-in_err-value-in-None-clause-answered : goal.returns-in_err-value-in-None-clause-answered
returns-in_err-value-in-None-clause-answered g c some =
    absurd (none_some (held c.args.self.now c.args.o)
    (unheld g (goal.at.returns-in_err-value-in-None-clause-answered g c).After-read c.in-None.is) some)

pub returns-in_err-value-in-None-clause-steps : goal.returns-in_err-value-in-None-clause-steps
returns-in_err-value-in-None-clause-steps g c some =
    absurd (none_some (held c.args.self.now c.args.o)
    (unheld g (goal.at.returns-in_err-value-in-None-clause-steps g c).After-read c.in-None.is) some)

-- the object is read, before this call or in it
is_read : (g : Over) (c : After-push_write g) →
    IsRead g.L.Law.holds c.args.o c.args.self.now c.match-read.self c.match-read.value
is_read g c = elim c.match-read.branch [
  | in-Some-read w ↦
      read_before c.self.invariant c.self.view_is
      c.args.o w.in-Some-read.slot c.match-read.value c.requires.live c.requires.rest
      (sym c.read.ensures ∙ w.in-Some-read.is) w.self-is w.value-is
  | in-None+in_ok-value-in-None w ↦
      let e = w.in_ok-value-in-None.ensures in
      read_by w.in_ok-value-in-None.value c.match-read.value (no_slot_unheld c.self.invariant c.self.view_is c.args.o
      (sym c.read.ensures ∙ w.in-None.is)) e.stays e.kept e.opens e.rest e.value w.self-is w.value-is
]

pub invariant_of-self : goal.invariant_of-self
invariant_of-self g c =
    let r = is_read g c in
    let unopened : value_in c.args.self.now.writes c.args.o ≡ None =
    ap (λ (k : TlCalled _). value_in k.writes c.args.o) (sym c.self.view_is) ∙ sym c.write.ensures ∙ c.in_default.is in
    pushed_tied r c.self-2.invariant c.self-2.view_is unopened c.push_write.ensures

pub returns : goal.returns
returns g c =
    let r = is_read g c in
    let unopened : value_in c.args.self.now.writes c.args.o ≡ None =
    ap (λ (k : TlCalled _). value_in k.writes c.args.o) (sym c.self.view_is) ∙ sym c.write.ensures ∙ c.in_default.is in
    record {
      again = search rules;
      answered = search rules;
      stays = pushed_stays r c.self-2.invariant c.self-2.view_is unopened c.push_write.ensures;
      steps = pushed_steps r c.self-2.invariant c.self-2.view_is unopened c.push_write.ensures;
      marks = λ unmarked.
          pushed_marks r c.self-2.invariant c.self-2.view_is unopened c.push_write.ensures;
      leaves = search rules;
      kept = search rules;
      continues = search rules;
      opens = pushed_opens r c.self-2.invariant c.self-2.view_is unopened c.push_write.ensures;
      rest = search rules;
      seen = search rules;
      value = pushed_value r c.self-2.invariant c.self-2.view_is unopened c.push_write.ensures;
    }
