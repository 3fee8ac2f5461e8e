use Rattle.std.proofs.Common.{arith}
use Rattle.std.proofs.lemmas.Grind.{common_steps}
use Rattle.dstm_structures.specs.Ordered.{TellsEnd}
use Rattle.dstm_structures.proofs.Doing.{does-is, does-then}
use Rattle.dstm_structures.proofs.Placing.{pops-some}
use Rattle.dstm_structures.proofs.Effects.{goes-stay}
use Rattle.dstm_structures.proofs.ordered.OrderedMap.pop.Goals as goal

pub returns-in_default-clause-pops : goal.returns-in_default-clause-pops
returns-in_default-clause-pops g c =
    does-is (TellsEnd g.V.Word.found c.args.self c.args.greatest) c.in_default.is c.in_ok-end.ensures.tells

pub returns-clause-pops : goal.returns-clause-pops
returns-clause-pops g c =
    does-then c.in_ok-end.ensures.goes.keeps
    (does-is (TellsEnd g.V.Word.found c.args.self c.args.greatest) c.in-Some.is c.in_ok-end.ensures.tells)
    c.in_ok-_removed.ensures.removes
    (λ before mid after size. pops-some g.V.Word.found c.args.self c.args.greatest c.in-Some.entry c.in_ok-_removed._removed before mid after)

pub returns-in_err-_removed-clause-stops : goal.returns-in_err-_removed-clause-stops
returns-in_err-_removed-clause-stops g c = let stay = goes-stay c.in_ok-end.ensures.goes in grind (arith, common_steps)
