use Rattle.dstm_structures.proofs.Rooms.{full-set, made-set}
use Rattle.dstm_structures.proofs.law.set_has_room.Goals as goal

pub returns-clause-made : goal.returns-clause-made
returns-clause-made c set before after adds = made-set set before after adds

pub returns-clause-full : goal.returns-clause-full
returns-clause-full c set key count before after told = full-set set key count before after told
