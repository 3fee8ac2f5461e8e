use Rattle.std.proofs.Common.{false, sym}
use Rattle.dstm_machines.specs.Traces.Access.{Store}
use Rattle.dstm_words.specs.Seats.{view_of, made}
use Rattle.dstm_steps.proofs.Tallied.{none_more, step_counts}
use Rattle.dstm_steps.proofs.counting.CallerSeat.store.Goals as goal

pub invariant_of-self : goal.invariant_of-self
invariant_of-self g c =
    let v = view_of c.self.inside.seat in
    let found = c.store.ensures.event.0 in
    step_counts g.L.Law.holds c.args.words.now c.self.inside
    (record { seat = c.store.new.seat; tally = c.tick.new.self; draws = c.self.inside.draws }) c.args.self.now (Store c.args.put) c.args.kind
    c.args.place found false false c.self.view_is c.requires.seat c.self.invariant (sym c.requires.no_turn)
    (sym (c.requires.no_kill (made v (Store c.args.put) c.args.kind c.args.place found))) c.store.ensures.event.1
    c.tick.ensures (none_more c.args.kind _ _ c.requires.no_draw c.self.invariant.draws)
