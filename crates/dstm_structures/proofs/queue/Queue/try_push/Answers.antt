use Rattle.std.proofs.Common.{arith, true, ◌∙◌}
use Rattle.std.proofs.lemmas.Grind.{common_steps}
use Rattle.dstm_structures.proofs.Effects.{full, notes-stay, opens-ends, opens-place, pushed}
use Rattle.dstm_structures.proofs.queue.Queue.try_push.Goals as goal

pub returns-then-count-self-clause-pushes : goal.returns-then-count-self-clause-pushes
returns-then-count-self-clause-pushes g c =
    full g.L.Law.holds g.T.Word.found c.args.self c.args.tx.now.attempts.caller c.get.new.self.attempts.caller
    c.ends.result.object c.in_ok-ends.ends c.within-at.result c.args.value c.ends.ensures c.within-at.ensures
    c.if-count-self.true c.in_ok-ends.ensures.gets

pub returns-clause-pushes : goal.returns-clause-pushes
returns-clause-pushes g c =
    pushed g.L.Law.holds g.T.Word.found c.args.self c.args.tx.now.attempts.caller c.get.new.self.attempts.caller
    c.set.new.self.attempts.caller c.set-2.new.self.attempts.caller c.in_ok-ends.ends c.within-at.result
    c.in_ok-set-2.ensures.puts.0 c.ends.result.object c.place.result.object c.ends-2.result.object c.behind.result
    c.in_ok-set.ensures.puts.0 c.args.value c.ends.ensures c.within-at.ensures c.if-count-self.false c.behind.ensures.behind
    c.place.ensures c.ends-2.ensures c.in_ok-ends.ensures.gets c.in_ok-set.ensures.puts.1 c.in_ok-set-2.ensures.puts.1

pub returns-in_err-set-clause-stops : goal.returns-in_err-set-clause-stops
returns-in_err-set-clause-stops g c = let stay = notes-stay c.in_ok-ends.ensures.notes in grind (arith, common_steps)

pub returns-in_err-set-2-clause-stops : goal.returns-in_err-set-2-clause-stops
returns-in_err-set-2-clause-stops g c = let stay = notes-stay c.in_ok-set.ensures.notes ∙ notes-stay c.in_ok-ends.ensures.notes in grind (arith, common_steps)

pub returns-clause-goes : goal.returns-clause-goes
returns-clause-goes g c = record {
  keeps = c.in_ok-set-2.ensures.keeps ∙ c.in_ok-set.ensures.keeps ∙ c.in_ok-ends.ensures.keeps;
  notes = λ first noted.
      c.in_ok-set-2.ensures.notes first (c.in_ok-set.ensures.notes first (c.in_ok-ends.ensures.notes first noted));
}

pub returns-then-count-self-clause-opens : goal.returns-then-count-self-clause-opens
returns-then-count-self-clause-opens g c = opens-ends g.L.Law.holds g.T.Word.found c.args.self _ _ c.ends.ensures c.in_ok-ends.ensures.once

pub returns-clause-opens : goal.returns-clause-opens
returns-clause-opens g c =
    opens-place g.L.Law.holds g.T.Word.found c.args.self true _ _ _ _ c.behind.ensures.within c.ends.ensures c.place.ensures
    c.ends-2.ensures c.in_ok-ends.ensures.once c.in_ok-set.ensures.once c.in_ok-set-2.ensures.once
