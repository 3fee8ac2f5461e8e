use Rattle.dstm_structures.specs.Maps.{Reaches}
use Rattle.dstm_structures.proofs.Looking.{does-shown}
use Rattle.dstm_structures.proofs.map.HashMap.reach.Goals as goal

pub returns-clause-reaches : goal.returns-clause-reaches
returns-clause-reaches g c = does-shown (Reaches c.args.self c.args.home c.in_ok-reach.reach) c.in_ok-reach.ensures.stays c.in_ok-reach.ensures.reaches

pub returns-clause-may : goal.returns-clause-may
returns-clause-may g c = (c.in_ok-reach.ensures.may.0, c.in_ok-reach.ensures.may.2.0)

pub returns-clause-together : goal.returns-clause-together
returns-clause-together g c = c.in_ok-reach.ensures.may.3
