use Rattle.dstm_structures.specs.Items.{Stands}
use Rattle.dstm_structures.proofs.Looking.{does-shown}
use Rattle.dstm_structures.proofs.map.HashMap.stands.Goals as goal

pub returns-clause-stands : goal.returns-clause-stands
returns-clause-stands g c = does-shown (Stands c.args.self c.args.at c.in_ok-key.key) c.in_ok-key.ensures.stays c.in_ok-key.ensures.stands
