use Rattle.std.proofs.Common.{◌∙◌, ◌≡◌, ap, false, None, Some, sym, true}
use Rattle.std.specs.Prelude.{is_some}
use Rattle.dstm_steps.specs.Writes.{to_put}
use Rattle.dstm_engine.proofs.Handing.{handed_there, held_continues, if_err, ok_then, slot_held, write_there}
use Rattle.dstm_engine.specs.Callers.{is_opened}
use Rattle.dstm_engine.specs.Opened.{read_slot, slots_value, write_slot}
use Rattle.dstm_engine.proofs.caller.Caller.open_write.Given.{Over}
use Rattle.dstm_engine.proofs.caller.Caller.open_write.Goals.{After-write}
use Rattle.dstm_engine.proofs.caller.Caller.open_write.Goals as goal

-- it is open for writing where it has a slot
marked : (g : Over) (c : After-write g) → is_opened c.args.self.now c.args.o ≡ is_some c.write.result
marked g c =
    write_there c.self.invariant c.self.view_is c.requires.live c.args.o
    ∙ ap is_some (sym c.write.ensures)

pub returns-in-Some-clause-stays : goal.returns-in-Some-clause-stays
returns-in-Some-clause-stays g c =
    λ no.
    let yes : is_opened c.args.self.now c.args.o ≡ true =
    marked g (goal.at.returns-in-Some-clause-stays g c).After-write ∙ ap is_some c.in-Some.is in absurd (cc)

pub returns-in-Some-clause-opens : goal.returns-in-Some-clause-opens
returns-in-Some-clause-opens g c =
    marked g (goal.at.returns-in-Some-clause-opens g c).After-write ∙ ap is_some c.in-Some.is

pub returns-in-Some-clause-continues : goal.returns-in-Some-clause-continues
returns-in-Some-clause-continues g c =
    held_continues c.self.invariant c.self.view_is c.requires.live c.args.o
    (slot_held c.self.invariant c.self.view_is c.requires.live c.args.o (to_put c.in-Some.slot)
    (ap (λ w. slots_value w (read_slot c.self.inside.opened.reads c.args.o)) (sym c.write.ensures ∙ c.in-Some.is)))

pub returns-in-Some-clause-value : goal.returns-in-Some-clause-value
returns-in-Some-clause-value g c =
    let slots : slots_value (write_slot c.self.inside.opened.writes c.args.o)
    (read_slot c.self.inside.opened.reads c.args.o) ≡ Some (to_put c.in-Some.slot) =
    ap (λ w. slots_value w (read_slot c.self.inside.opened.reads c.args.o)) (sym c.write.ensures ∙ c.in-Some.is) in
    ap Some c.to_put.ensures ∙ sym slots
    ∙ handed_there c.self.invariant c.self.view_is c.requires.live c.args.o

pub write_out-requires-clause-unopened : goal.write_out-requires-clause-unopened
write_out-requires-clause-unopened g c =
    marked g (goal.at.write_out-requires-clause-unopened g c).After-write ∙ ap is_some c.in_default.is

-- it is not open where it has none
shut : (g : Over) (c : After-write g) → c.write.result ≡ None → is_opened c.args.self.now c.args.o ≡ true → ⊥
shut g c none there = let away : is_opened c.args.self.now c.args.o ≡ false = marked g c ∙ ap is_some none in absurd (cc)

pub returns-clause-again : goal.returns-clause-again
returns-clause-again g c = λ yes. absurd (shut g (goal.at.returns-clause-again g c).After-write c.in_default.is yes)

pub returns-clause-answered : goal.returns-clause-answered
returns-clause-answered g c = λ yes. absurd (shut g (goal.at.returns-clause-answered g c).After-write c.in_default.is yes)

pub returns-clause-stays : goal.returns-clause-stays
returns-clause-stays g c = λ not_open. ok_then c.write_out.result _ _ (λ x o. o.stays) c.write_out.ensures.opens

pub returns-clause-leaves : goal.returns-clause-leaves
returns-clause-leaves g c = if_err c.write_out.result _ _ (λ e s. s.leaves) c.write_out.ensures.stops
