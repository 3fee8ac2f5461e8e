use Rattle.dstm_structures.proofs.Doing.{does-as}
use Rattle.dstm_structures.proofs.Sets.{tells-last}
use Rattle.dstm_structures.proofs.set.OrderedSet.last.Goals as goal

pub returns-clause-tells : goal.returns-clause-tells
returns-clause-tells g c =
    does-as c.in_ok-last.ensures.tells
    (λ before after size. tells-last c.args.self c.in_ok-last.last c.key_in.result before after c.key_in.ensures)
