use Rattle.dstm_structures.proofs.Doing.{does-as}
use Rattle.dstm_structures.proofs.Sets.{tells-below}
use Rattle.dstm_structures.proofs.set.OrderedSet.next_below.Goals as goal

pub returns-clause-tells : goal.returns-clause-tells
returns-clause-tells g c =
    does-as c.in_ok-before.ensures.tells
    (λ before after size. tells-below c.args.self c.args.key c.in_ok-before.before c.key_in.result before after c.key_in.ensures)
