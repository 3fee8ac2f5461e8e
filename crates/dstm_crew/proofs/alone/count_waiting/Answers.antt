use Rattle.std.proofs.Common.{◌≡◌, ◌+◌, ◌-◌, ◌<◌, arith, sym, subst, ◌∙◌}
use Rattle.dstm_crew.proofs.Waits.{IsCounted, counted, is_found, passed_over}
use Rattle.dstm_crew.proofs.alone.count_waiting.Goals.{After-is_some}
use Rattle.dstm_crew.proofs.alone.count_waiting.Goals as goal

-- the worker of this turn is one of them, and those behind it are counted
behind : (c : After-is_some) → (c.loop-worker.worker - 1 < c.args.workers)
    × IsCounted c.args.workers c.args.turns.now.left (c.loop-worker.worker - 1 + 1) c.loop-worker.count c.loop-worker.first
behind c =
    let next : c.loop-worker.worker ≡ c.loop-worker.worker - 1 + 1 = omega (arith, c.loop-worker-test.true) in (
      omega (arith, c.loop-worker-test.true, c.loop-worker.auto.worker),
      subst (λ w. IsCounted c.args.workers c.args.turns.now.left w c.loop-worker.count c.loop-worker.first) next
          c.loop-worker.invariant,
    )

pub loop-worker-preserved-then-is_some : goal.loop-worker-preserved-then-is_some
loop-worker-preserved-then-is_some c =
    let left = c.args.turns.now.left in
    let (below, before) = behind (goal.at.loop-worker-preserved-then-is_some c).After-is_some in
    counted (c.loop-worker.worker - 1) below
    (is_found (c.loop-worker.worker - 1) left c.first.result c.first.ensures ∙ sym c.is_some.ensures ∙ c.if-is_some.true)
    before

pub loop-worker-preserved : goal.loop-worker-preserved
loop-worker-preserved c =
    let left = c.args.turns.now.left in
    let (below, before) = behind (goal.at.loop-worker-preserved c).After-is_some in
    passed_over (c.loop-worker.worker - 1) below
    (is_found (c.loop-worker.worker - 1) left c.first.result c.first.ensures ∙ sym c.is_some.ensures ∙ c.if-is_some.false)
    before
