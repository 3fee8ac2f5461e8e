use Rattle.dstm_structures.proofs.Laws.{added-wastes-none}
use Rattle.dstm_structures.proofs.Rooms.{full-map}
use Rattle.dstm_structures.proofs.law.map_has_room.Goals as goal

pub returns-clause-made : goal.returns-clause-made
returns-clause-made g c map before after adds = added-wastes-none adds

pub returns-clause-full : goal.returns-clause-full
returns-clause-full g c map key count before after told = full-map g.V.Word.found map key count before after told
