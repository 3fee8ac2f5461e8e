use Rattle.dstm_structures.proofs.Doing.{does-as}
use Rattle.dstm_structures.proofs.Sets.{removes}
use Rattle.dstm_structures.proofs.set.OrderedSet.remove.Goals as goal

pub returns-clause-removes : goal.returns-clause-removes
returns-clause-removes g c =
    does-as c.in_ok-removed.ensures.removes
    (λ before after size. removes c.args.self c.args.key c.in_ok-removed.removed c.is_some.result before after
    c.is_some.ensures)
