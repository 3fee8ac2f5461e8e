use Rattle.std.proofs.Common.{false}
use Rattle.dstm_machines.specs.Traces.Access.{Load}
use Rattle.dstm_words.specs.Seats.{caller_state, view_of, made}
use Rattle.dstm_steps.proofs.Tallied.{load_draws, load_kills, none_more, step_counts}
use Rattle.dstm_steps.proofs.counting.CallerSeat.load.Goals as goal

pub invariant_of-self : goal.invariant_of-self
invariant_of-self g c =
    let v = view_of c.self.inside.seat in
    step_counts g.L.Law.holds c.args.words.now c.self.inside
    (record { seat = c.load-found.new.seat; tally = c.tick.new.self; draws = c.self.inside.draws }) c.args.self.now Load c.args.kind c.args.place
    c.load-found.result c.args.turn false c.self.view_is c.requires.seat c.self.invariant c.requires.turn
    (load_kills c.args.kind c.args.words.now.terms.shape (caller_state c.args.words.now.terms v)
    (made v Load c.args.kind c.args.place c.load-found.result) c.requires.loads)
    c.load-found.ensures.event c.tick.ensures
    (none_more c.args.kind _ _ (load_draws c.args.kind c.args.words.now.terms.shape
    (caller_state c.args.words.now.terms v) (made v Load c.args.kind c.args.place c.load-found.result) c.requires.loads)
    c.self.invariant.draws)
