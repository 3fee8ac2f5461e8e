use Rattle.std.proofs.Common.{ℕ, subst, sym}
use Rattle.atomic_table.specs.declared.shared.Seat.{Seat}
use Rattle.dstm_tl2_steps.specs.Opened.{OpenedAs}
use Rattle.dstm_tl2_words.specs.Seats.{View}
use Rattle.dstm_tl2_engine.proofs.Setting.{enrolled_tied, new_inside}
use Rattle.dstm_tl2_engine.specs.Mirror.{Tied}
use Rattle.dstm_tl2_engine.proofs.caller.TlCaller.enrolled.Goals as goal

pub invariant_of-result : goal.invariant_of-result
invariant_of-result g c =
    let x = new_inside c.args.terms c.args.seat c.args.objects c.args.number in
    subst (λ (seat : Seat ℕ (View _)). Tied g.L.Law.holds (record x {
      steps = record x.steps { seat = seat; places = c.of.result };
      opened = c.args.opened;
    })) (sym c.make.ensures)
    (subst (λ places. Tied g.L.Law.holds (record x {
      steps = record x.steps { places = places };
      opened = c.args.opened;
    })) (sym c.of.ensures)
    (subst (λ (opened : OpenedAs). Tied g.L.Law.holds (record x { opened = opened })) (sym c.requires.opened)
    (enrolled_tied c.args.seat c.args.objects c.args.number c.requires.view c.requires.slots
    c.requires.run c.requires.objects c.requires.number c.requires.state)))
