use Rattle.std.proofs.Common.{ap}
use Rattle.dstm_structures.proofs.map.HashMap.read.Goals as goal

pub returns-clause-reads : goal.returns-clause-reads
returns-clause-reads g c =
    (c.in_ok-answer.ensures.tells c.args.memory.now.values.items c.args.memory.now.values.items
    (ap (λ b. b.memory.now.values.items) c.in_ok-answer.ensures.stays)).is
