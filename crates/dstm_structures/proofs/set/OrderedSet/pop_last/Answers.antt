use Rattle.dstm_structures.proofs.Doing.{does-as}
use Rattle.dstm_structures.proofs.Sets.{pops-last}
use Rattle.dstm_structures.proofs.set.OrderedSet.pop_last.Goals as goal

pub returns-clause-pops : goal.returns-clause-pops
returns-clause-pops g c =
    does-as c.in_ok-popped.ensures.pops
    (λ before after size. pops-last c.args.self c.in_ok-popped.popped c.key_in.result before after c.key_in.ensures)
