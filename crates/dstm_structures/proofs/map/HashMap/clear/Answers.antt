use Rattle.std.proofs.Common.{arith}
use Rattle.std.proofs.lemmas.Grind.{common_steps}
use Rattle.dstm_structures.specs.Effects.{goes-again}
use Rattle.dstm_structures.proofs.Doing.{does-as, does-then}
use Rattle.dstm_structures.proofs.Mapping.{clear-end, clear-next, clear-start}
use Rattle.dstm_structures.proofs.Effects.{goes-stay}
use Rattle.dstm_structures.proofs.map.HashMap.clear.Goals as goal

pub loop-passed-init : goal.loop-passed-init
loop-passed-init g c = (
  c.in_ok-reach.ensures.goes,
  does-as c.in_ok-reach.ensures.reaches
      (λ before after size. clear-start c.args.self c.args.key c.home-home.result c.in_ok-reach.reach before after
      c.home-home.ensures.home),
  c.in_ok-reach.ensures.may,
  c.in_ok-reach.ensures.together,
)

pub loop-passed-preserved : goal.loop-passed-preserved
loop-passed-preserved g c = (
  goes-again c.loop-passed.invariant.0 c.in_ok-empty.ensures.goes,
  does-then c.loop-passed.invariant.0.keeps c.loop-passed.invariant.1
      c.in_ok-empty.ensures.empties
      (λ before mid after size. clear-next c.args.self c.args.key c.in_ok-reach.reach c.loop-passed.passed
      c.home-home.result c.behind.result before mid after c.home-home.ensures.home c.behind.ensures.behind
      c.behind.ensures.within),
  c.in_ok-empty.ensures.may,
  c.in_ok-empty.ensures.together,
)

pub returns-clause-clears : goal.returns-clause-clears
returns-clause-clears g c =
    does-as c.loop-passed.invariant.1
    (λ before after size. clear-end c.args.self c.args.key c.in_ok-reach.reach c.loop-passed.passed before after
    (omega (arith, c.loop-passed-test.false)))

pub returns-in_err-empty-clause-stops : goal.returns-in_err-empty-clause-stops
returns-in_err-empty-clause-stops g c = let stay = goes-stay c.loop-passed.invariant.0 in grind (arith, common_steps)
