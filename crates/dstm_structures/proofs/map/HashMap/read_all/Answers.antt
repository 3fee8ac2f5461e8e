use Rattle.std.proofs.Common.{ap}
use Rattle.dstm_structures.proofs.map.HashMap.read_all.Goals as goal

pub returns-clause-lists : goal.returns-clause-lists
returns-clause-lists g c =
    c.in_ok-items.ensures.lists c.args.memory.now.values.items c.args.memory.now.values.items
    (ap (λ b. b.memory.now.values.items) c.in_ok-items.ensures.stays)
