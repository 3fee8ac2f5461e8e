use Rattle.std.proofs.Common.{arith}
use Rattle.dstm_structures.specs.Effects.{goes-again, goes-still}
use Rattle.dstm_structures.proofs.Doing.{does-as, does-still, does-then}
use Rattle.dstm_structures.proofs.Items.{count-end, count-next, count-start}
use Rattle.dstm_structures.proofs.map.HashMap.len.Goals as goal

pub loop-at-init : goal.loop-at-init
loop-at-init g c = (
  omega arith,
  goes-still,
  does-still (λ values. count-start g.V.Word.found c.args.self values),
  λ some. absurd (omega (arith, some)),
  λ some. absurd (omega (arith, some)),
)

pub loop-at-preserved : goal.loop-at-preserved
loop-at-preserved g c = (
  omega (arith, c.loop-at.invariant.0, c.one_if-count.ensures.few),
  goes-again c.loop-at.invariant.1 c.in_ok-key.ensures.goes,
  does-then c.loop-at.invariant.1.keeps c.loop-at.invariant.2 c.in_ok-key.ensures.stands
      (λ before mid after size. count-next g.V.Word.found c.args.self c.loop-at.at c.loop-at.count c.one_if-count.result
      c.in_ok-key.key before mid after c.one_if-count.ensures.is),
  λ some. c.in_ok-key.ensures.may,
  λ some. c.in_ok-key.ensures.together,
)

pub returns-clause-counts : goal.returns-clause-counts
returns-clause-counts g c =
    does-as c.loop-at.invariant.2
    (λ before after size. count-end g.V.Word.found c.args.self c.loop-at.at c.loop-at.count before after
    (omega (arith, c.loop-at-test.false)))

pub returns-clause-may : goal.returns-clause-may
returns-clause-may g c = c.loop-at.invariant.3 (omega (arith, c.loop-at-test.false, c.args.self.cells.some))

pub returns-clause-together : goal.returns-clause-together
returns-clause-together g c = c.loop-at.invariant.4 (omega (arith, c.loop-at-test.false, c.args.self.cells.some))
