use Rattle.std.proofs.Common.{ℕ, ◌≡◌, ◌-◌, ap, arith, false, rules, ◌∙◌}
use Rattle.std.specs.Prelude.{Err}
use Rattle.dstm_structures.specs.Queues.{end_of}
use Rattle.dstm_structures.proofs.Effects.{first-inside, notes-stay, opens-ends, opens-place, popped, stops-change}
use Rattle.dstm_structures.proofs.queue.Queue.try_pop.Goals as goal

pub returns-clause-pops : goal.returns-clause-pops
returns-clause-pops g c =
    popped g.L.Law.holds g.T.Word.found c.args.self c.args.tx.now.attempts.caller c.get.new.self.attempts.caller
    c.get-2.new.self.attempts.caller c.set.new.self.attempts.caller c.in_ok-ends.ends c.within-at.result
    (c.next.result, c.within-at.result.1 - 1) c.in_ok-set.ensures.puts.0 c.ends.result.object c.place.result.object
    c.ends-2.result.object c.in_ok-value.value c.ends.ensures c.within-at.ensures c.if-count-eq0.false c.place.ensures
    c.ends-2.ensures (ap (λ (x : ℕ). (x, c.within-at.result.1 - 1)) c.next.ensures) c.in_ok-ends.ensures.gets
    c.in_ok-value.ensures.gets c.in_ok-set.ensures.puts.1

pub returns-in_err-set-clause-stops : goal.returns-in_err-set-clause-stops
returns-in_err-set-clause-stops g c =
    let stay = notes-stay c.in_ok-value.ensures.notes ∙ notes-stay c.in_ok-ends.ensures.notes in
    let answer = c.from_residual-in_err-set.ensures in
    let is : c.from_residual-in_err-set.result ≡ Err c.in_err-set.field-0.0 = search rules in
    rw is (stops-change g.L.Law.holds (end_of c.args.self) c.ends-2.result.object c.args.tx.now.notes c.args.tx.now
    c.get-2.new.self c.set.new.self (c.in_ok-value.ensures.keeps ∙ c.in_ok-ends.ensures.keeps)
    (omega (arith, c.ends-2.ensures)) c.in_err-set.field-0.0.why stay c.in_err-set.ensures.stops)

pub returns-then-count-eq0-clause-opens : goal.returns-then-count-eq0-clause-opens
returns-then-count-eq0-clause-opens g c = opens-ends g.L.Law.holds g.T.Word.found c.args.self _ _ c.ends.ensures c.in_ok-ends.ensures.once

pub returns-clause-opens : goal.returns-clause-opens
returns-clause-opens g c =
    opens-place g.L.Law.holds g.T.Word.found c.args.self false _ _ _ _
    (first-inside g.L.Law.holds g.T.Word.found c.args.self c.in_ok-ends.ends c.within-at.result c.within-at.ensures
    c.if-count-eq0.false) c.ends.ensures c.place.ensures c.ends-2.ensures c.in_ok-ends.ensures.once
    c.in_ok-value.ensures.once c.in_ok-set.ensures.once
