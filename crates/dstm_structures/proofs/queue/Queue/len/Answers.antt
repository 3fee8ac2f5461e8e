use Rattle.dstm_structures.proofs.Effects.{counted, opens-ends}
use Rattle.dstm_structures.proofs.queue.Queue.len.Goals as goal

pub returns-clause-counts : goal.returns-clause-counts
returns-clause-counts g c =
    counted g.L.Law.holds g.T.Word.found c.args.self c.args.tx.now.attempts.caller c.get.new.self.attempts.caller
    c.ends.result.object c.in_ok-ends.ends c.within.result c.ends.ensures c.within.ensures c.in_ok-ends.ensures.gets

pub returns-clause-opens : goal.returns-clause-opens
returns-clause-opens g c = opens-ends g.L.Law.holds g.T.Word.found c.args.self _ _ c.ends.ensures c.in_ok-ends.ensures.once
