use Rattle.dstm_structures.proofs.Doing.{does-as}
use Rattle.dstm_structures.proofs.Sets.{tells-first}
use Rattle.dstm_structures.proofs.set.OrderedSet.first.Goals as goal

pub returns-clause-tells : goal.returns-clause-tells
returns-clause-tells g c =
    does-as c.in_ok-first.ensures.tells
    (λ before after size. tells-first c.args.self c.in_ok-first.first c.key_in.result before after c.key_in.ensures)
