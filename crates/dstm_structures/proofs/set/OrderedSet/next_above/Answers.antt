use Rattle.dstm_structures.proofs.Doing.{does-as}
use Rattle.dstm_structures.proofs.Sets.{tells-above}
use Rattle.dstm_structures.proofs.set.OrderedSet.next_above.Goals as goal

pub returns-clause-tells : goal.returns-clause-tells
returns-clause-tells g c =
    does-as c.in_ok-next.ensures.tells
    (λ before after size. tells-above c.args.self c.args.key c.in_ok-next.next c.key_in.result before after c.key_in.ensures)
