use Rattle.dstm_structures.proofs.Rooms.{full-ordered, made-ordered}
use Rattle.dstm_structures.proofs.law.ordered_map_has_room.Goals as goal

pub returns-clause-made : goal.returns-clause-made
returns-clause-made g c map before after adds = made-ordered g.V.Word.found map before after adds

pub returns-clause-full : goal.returns-clause-full
returns-clause-full g c map key count before after told = full-ordered g.V.Word.found map key count before after told
