use Rattle.std.proofs.Common.{◌+◌, ◌∙◌, ap, false}
use Rattle.dstm_machines.specs.Traces.Access.{Add}
use Rattle.dstm_words.specs.Seats.{caller_state, view_of, made}
use Rattle.dstm_order.specs.Counts.{one_if}
use Rattle.dstm_steps.specs.Ticks.{stands}
use Rattle.dstm_steps.proofs.Tallied.{add_kills, add_turns, step_counts}
use Rattle.dstm_steps.proofs.counting.CallerSeat.add.Goals as goal

pub invariant_of-self : goal.invariant_of-self
invariant_of-self g c =
    let v = view_of c.self.inside.seat in
    let state = caller_state c.args.words.now.terms (view_of c.args.self.now) in
    let event = made v Add c.args.kind c.args.place c.add-found.result in
    let shape = c.args.words.now.terms.shape in
    step_counts g.L.Law.holds c.args.words.now c.self.inside
    (record { seat = c.add-found.new.seat; tally = c.tick.new.self; draws = c.one_more-self-inside.result }) c.args.self.now Add c.args.kind c.args.place
    c.add-found.result false false c.self.view_is c.requires.seat c.self.invariant
    (add_turns c.args.kind shape state event c.requires.adds) (add_kills c.args.kind shape state event c.requires.adds)
    c.add-found.ensures.event c.tick.ensures
    (c.one_more-self-inside.ensures ∙ ap (λ b. stands (c.self.inside.draws + one_if b)) c.draws.ensures)
