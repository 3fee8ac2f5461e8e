use Rattle.std.proofs.Common.{arith}
use Rattle.std.proofs.lemmas.Grind.{common_steps}
use Rattle.dstm_structures.specs.Maps.{Tells}
use Rattle.dstm_structures.proofs.Doing.{does-is, does-then}
use Rattle.dstm_structures.proofs.Mapping.{takes-out}
use Rattle.dstm_structures.proofs.Effects.{goes-stay}
use Rattle.dstm_structures.proofs.map.HashMap.remove.Goals as goal

pub returns-clause-removes : goal.returns-clause-removes
returns-clause-removes g c =
    does-then c.in_ok-found.ensures.goes.keeps
    (does-is (Tells g.V.Word.found c.args.self c.args.key)
    c.in-Some.is c.in_ok-found.ensures.tells) c.in_ok-clear.ensures.clears
    (λ before mid after size. takes-out g.V.Word.found c.args.self c.args.key c.in-Some.value before mid after
    c.args.self.cells.some)

pub returns-in_err-clear-clause-stops : goal.returns-in_err-clear-clause-stops
returns-in_err-clear-clause-stops g c = let stay = goes-stay c.in_ok-found.ensures.goes in grind (arith, common_steps)
