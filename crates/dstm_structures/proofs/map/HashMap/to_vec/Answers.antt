use Rattle.dstm_structures.specs.Items.{Lists}
use Rattle.dstm_structures.proofs.Looking.{does-shown}
use Rattle.dstm_structures.proofs.map.HashMap.to_vec.Goals as goal

pub returns-clause-lists : goal.returns-clause-lists
returns-clause-lists g c = does-shown (Lists g.V.Word.found c.args.self c.in_ok-items.items.items) c.in_ok-items.ensures.stays c.in_ok-items.ensures.lists
