use Rattle.std.proofs.Common.{false, refl}
use Rattle.dstm_machines.specs.Traces.Access.{Exchange}
use Rattle.dstm_words.specs.Seats.{caller_state, view_of, found_in, made}
use Rattle.dstm_steps.proofs.Tallied.{exchange_draws, exchange_kills, exchange_turns, none_more, step_counts}
use Rattle.dstm_steps.proofs.counting.CallerSeat.exchange.Goals as goal

pub invariant_of-self : goal.invariant_of-self
invariant_of-self g c =
    let v = view_of c.self.inside.seat in
    let state = caller_state c.args.words.now.terms (view_of c.args.self.now) in
    step_counts g.L.Law.holds c.args.words.now c.self.inside
    (record { seat = c.exchange-answer.new.seat; tally = c.tick.new.self; draws = c.self.inside.draws }) c.args.self.now
    (Exchange c.args.expected c.args.put) c.args.kind c.args.place (found_in c.exchange-answer.result) false _
    c.self.view_is c.requires.seat c.self.invariant (exchange_turns c.args.kind state c.requires.exchanges)
    (rw (c.kills.ensures, c.is_ok.ensures.value) (exchange_kills c.args.kind c.exchange-answer.result
    (made v (Exchange c.args.expected c.args.put) c.args.kind c.args.place (found_in c.exchange-answer.result)) refl
    c.exchange-answer.ensures.answer)) c.exchange-answer.ensures.event c.tick.ensures
    (none_more c.args.kind _ _ (exchange_draws c.args.kind c.requires.exchanges) c.self.invariant.draws)
