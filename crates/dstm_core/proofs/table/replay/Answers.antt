use Rattle.std.proofs.Common.{take, reverse, rules}
use Rattle.dstm_core.specs.Replays.{IsFirstBroken}
use Rattle.dstm_core.proofs.Replaying.{core_whole, one_more, breaks, broken_run, broken_at, run_at}
use Rattle.dstm_core.proofs.table.replay.Goals as goal
use Rattle.dstm_core.proofs.table.replay.Goals.{Then-not-branch}

pub loop-i-preserved : goal.loop-i-preserved
loop-i-preserved c =
    let log = reverse (take c.loop-i.i c.args.trace.now) in
    one_more c.args.shape.now c.args.trace.now c.loop-i.i _ _ _
    c.loop-i-test.true (search rules) c.if-not-branch.false c.loop-i.invariant.core
    (c.in_ok-step.ensures c.args.shape.now log c.loop-i.invariant.stands)

-- the event that does not fit is the first one
first : (c : Then-not-branch) → IsFirstBroken c.args.shape.now c.args.trace.now c.loop-i.i
first c =
    let log = reverse (take c.loop-i.i c.args.trace.now) in
    breaks c.args.shape.now c.args.trace.now c.loop-i.i _ _ _
    c.loop-i-test.true (search rules) c.if-not-branch.true c.loop-i.invariant.core
    (c.in_ok-step.ensures c.args.shape.now log c.loop-i.invariant.stands)

pub returns-then-not-branch-clause-run : goal.returns-then-not-branch-clause-run
returns-then-not-branch-clause-run c = broken_run (first (goal.at.returns-then-not-branch-clause-run c).Then-not-branch)

pub returns-then-not-branch-clause-broken : goal.returns-then-not-branch-clause-broken
returns-then-not-branch-clause-broken c =
    broken_at (first (goal.at.returns-then-not-branch-clause-broken c).Then-not-branch)

pub returns-clause-broken : goal.returns-clause-broken
returns-clause-broken c =
    run_at c.args.shape.now c.args.trace.now
    (core_whole c.args.shape.now c.args.trace.now c.loop-i.i c.loop-i-test.false c.loop-i.invariant.core)
