use Rattle.dstm_structures.proofs.Doing.{does-as}
use Rattle.dstm_structures.proofs.Sets.{counts}
use Rattle.dstm_structures.proofs.set.OrderedSet.len.Goals as goal

pub returns-clause-counts : goal.returns-clause-counts
returns-clause-counts g c =
    does-as c.in_ok-count.ensures.counts (λ before after size. counts c.args.self c.in_ok-count.count before after)
