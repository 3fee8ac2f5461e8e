use Rattle.dstm_structures.specs.Maps.{Seeks}
use Rattle.dstm_structures.proofs.Looking.{does-shown}
use Rattle.dstm_structures.proofs.map.HashMap.find.Goals as goal

pub returns-clause-seeks : goal.returns-clause-seeks
returns-clause-seeks g c = does-shown (Seeks c.args.self c.args.key c.in_ok-place.place) c.in_ok-place.ensures.stays c.in_ok-place.ensures.seeks

pub returns-clause-may : goal.returns-clause-may
returns-clause-may g c = (c.in_ok-place.ensures.may.0, c.in_ok-place.ensures.may.2.0)

pub returns-clause-together : goal.returns-clause-together
returns-clause-together g c = c.in_ok-place.ensures.may.3
