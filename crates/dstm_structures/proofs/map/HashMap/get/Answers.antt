use Rattle.dstm_structures.specs.Maps.{Tells}
use Rattle.dstm_structures.proofs.Looking.{does-shown}
use Rattle.dstm_structures.proofs.map.HashMap.get.Goals as goal

pub returns-clause-tells : goal.returns-clause-tells
returns-clause-tells g c = does-shown (Tells g.V.Word.found c.args.self c.args.key c.in_ok-answer.answer) c.in_ok-answer.ensures.stays c.in_ok-answer.ensures.tells

pub returns-clause-may : goal.returns-clause-may
returns-clause-may g c = (c.in_ok-answer.ensures.may.0, c.in_ok-answer.ensures.may.2.0)

pub returns-clause-together : goal.returns-clause-together
returns-clause-together g c = c.in_ok-answer.ensures.may.3
