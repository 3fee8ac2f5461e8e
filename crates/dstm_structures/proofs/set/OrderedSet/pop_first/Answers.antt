use Rattle.dstm_structures.proofs.Doing.{does-as}
use Rattle.dstm_structures.proofs.Sets.{pops}
use Rattle.dstm_structures.proofs.set.OrderedSet.pop_first.Goals as goal

pub returns-clause-pops : goal.returns-clause-pops
returns-clause-pops g c =
    does-as c.in_ok-popped.ensures.pops
    (λ before after size. pops c.args.self c.in_ok-popped.popped c.key_in.result before after c.key_in.ensures)
