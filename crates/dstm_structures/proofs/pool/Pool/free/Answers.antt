use Rattle.std.proofs.Common.{arith, refl}
use Rattle.dstm_structures.specs.Effects.{goes-again, goes-still}
use Rattle.dstm_structures.proofs.Doing.{does-as, does-still, then-read}
use Rattle.dstm_structures.proofs.Pools.{opens-all, opens-found, opens-mark, pass-all, pass-found, pass-next, pass-start}
use Rattle.dstm_structures.proofs.pool.Pool.free.Goals as goal

pub loop-passed-init : goal.loop-passed-init
loop-passed-init g c = (
  goes-still,
  does-still (λ values. pass-start c.args.self c.args.start values),
  refl,
  λ some. absurd (omega (arith, some)),
  λ some. absurd (omega (arith, some)),
)

pub loop-passed-preserved : goal.loop-passed-preserved
loop-passed-preserved g c = (
  goes-again c.loop-passed.invariant.0 (record { keeps = c.in_ok-mark.ensures.keeps; notes = c.in_ok-mark.ensures.notes }),
  then-read c.loop-passed.invariant.0.keeps c.loop-passed.invariant.1 c.in_ok-mark.ensures.gets
      (λ before mid after size p reads. pass-next c.args.self c.args.start c.loop-passed.passed c.behind-at.result
      c.mark_at.result.object c.in_ok-mark.mark before mid after c.behind-at.ensures.behind c.mark_at.ensures p reads
      c.if-not-mark.false),
  opens-mark c.args.self g.L.Law.holds c.args.start _ _ _ c.loop-passed.passed c.requires
      (omega (arith, c.loop-passed-test.true)) c.behind-at.ensures.behind c.mark_at.ensures c.loop-passed.invariant.2
      c.in_ok-mark.ensures.once,
  λ some. c.in_ok-mark.ensures.may,
  λ some. c.in_ok-mark.ensures.together,
)

pub returns-then-not-mark-clause-seeks : goal.returns-then-not-mark-clause-seeks
returns-then-not-mark-clause-seeks g c =
    then-read c.loop-passed.invariant.0.keeps c.loop-passed.invariant.1 c.in_ok-mark.ensures.gets
    (λ before mid after size p reads. pass-found c.args.self c.args.start c.loop-passed.passed c.behind-at.result
    c.mark_at.result.object c.in_ok-mark.mark before mid after c.behind-at.ensures.behind c.mark_at.ensures p reads
    (omega (arith, c.loop-passed-test.true)) c.if-not-mark.true)

pub returns-then-not-mark-clause-opens : goal.returns-then-not-mark-clause-opens
returns-then-not-mark-clause-opens g c =
    opens-found c.args.self g.L.Law.holds c.args.start _ _ _ c.loop-passed.passed c.requires
    (omega (arith, c.loop-passed-test.true)) c.behind-at.ensures.behind c.mark_at.ensures c.loop-passed.invariant.2
    c.in_ok-mark.ensures.once

pub returns-clause-seeks : goal.returns-clause-seeks
returns-clause-seeks g c =
    does-as c.loop-passed.invariant.1
    (λ before after size p. pass-all c.args.self c.args.start c.loop-passed.passed before after c.requires
    (omega (arith, c.loop-passed-test.false)) p)

pub returns-clause-opens : goal.returns-clause-opens
returns-clause-opens g c =
    opens-all c.args.self g.L.Law.holds c.args.start _ _ c.loop-passed.passed
    (omega (arith, c.loop-passed-test.false, c.loop-passed.auto)) c.loop-passed.invariant.2

pub returns-clause-may : goal.returns-clause-may
returns-clause-may g c = c.loop-passed.invariant.3 (omega (arith, c.loop-passed-test.false, c.requires))

pub returns-clause-together : goal.returns-clause-together
returns-clause-together g c = c.loop-passed.invariant.4 (omega (arith, c.loop-passed-test.false, c.requires))
