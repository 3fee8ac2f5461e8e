use Rattle.dstm_structures.proofs.Effects.{first-inside, fronted, opens-ends, opens-front}
use Rattle.dstm_structures.proofs.queue.Queue.front.Goals as goal

pub returns-clause-fronts : goal.returns-clause-fronts
returns-clause-fronts g c =
    fronted g.L.Law.holds g.T.Word.found c.args.self c.args.tx.now.attempts.caller c.get.new.self.attempts.caller
    c.get-2.new.self.attempts.caller c.in_ok-ends.ends c.within-at.result c.ends.result.object c.place.result.object
    c.in_ok-front.front c.ends.ensures c.within-at.ensures c.if-count-eq0.false c.place.ensures
    c.in_ok-ends.ensures.gets c.in_ok-front.ensures.gets

pub returns-then-count-eq0-clause-opens : goal.returns-then-count-eq0-clause-opens
returns-then-count-eq0-clause-opens g c = opens-ends g.L.Law.holds g.T.Word.found c.args.self _ _ c.ends.ensures c.in_ok-ends.ensures.once

pub returns-clause-opens : goal.returns-clause-opens
returns-clause-opens g c =
    opens-front g.L.Law.holds g.T.Word.found c.args.self _ _ _ c.in_ok-front.front
    (first-inside g.L.Law.holds g.T.Word.found c.args.self c.in_ok-ends.ends c.within-at.result c.within-at.ensures
    c.if-count-eq0.false) c.ends.ensures c.place.ensures c.in_ok-ends.ensures.once c.in_ok-front.ensures.once
