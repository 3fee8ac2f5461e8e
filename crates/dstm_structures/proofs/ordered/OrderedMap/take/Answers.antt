use Rattle.std.proofs.Common.{arith}
use Rattle.std.proofs.lemmas.Grind.{common_steps}
use Rattle.dstm_structures.proofs.Doing.{does-then, does-wider}
use Rattle.dstm_structures.proofs.Placing.{takes-key}
use Rattle.dstm_structures.proofs.Effects.{goes-stay}
use Rattle.dstm_structures.proofs.ordered.OrderedMap.take.Goals as goal

pub returns-clause-takes : goal.returns-clause-takes
returns-clause-takes g c =
    does-then c.in_ok-drop_key.ensures.goes.keeps c.in_ok-drop_key.ensures.drops (does-wider (omega arith)
    c.in_ok-clear.ensures.clears)
    (λ before mid after size. takes-key g.V.Word.found c.args.self c.args.key c.args.at before mid after)

pub returns-in_err-clear-clause-stops : goal.returns-in_err-clear-clause-stops
returns-in_err-clear-clause-stops g c = let stay = goes-stay c.in_ok-drop_key.ensures.goes in grind (arith, common_steps)
