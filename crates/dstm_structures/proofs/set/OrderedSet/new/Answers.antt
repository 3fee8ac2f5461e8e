use Rattle.dstm_structures.proofs.Sets.{adds}
use Rattle.dstm_structures.proofs.set.OrderedSet.new.Goals as goal

pub returns-clause-adds : goal.returns-clause-adds
returns-clause-adds g c = adds _ c.args.memory.now.values.items c.new.new.memory.values.items c.in_ok-map.ensures.adds
