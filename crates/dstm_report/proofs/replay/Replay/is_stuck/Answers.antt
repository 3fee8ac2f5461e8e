use Rattle.std.proofs.Common.{◌≤◌, refl, sym, arith}
use Rattle.std.specs.List.{All}
use Rattle.dstm_model.specs.Layout.{FitsLayout}
use Rattle.dstm_workload.specs.declared.workload.Job.{Job}
use Rattle.dstm_report.proofs.Rising.{first_holds, all_blocked}
use Rattle.dstm_report.proofs.replay.Replay.is_stuck.Goals as goal

pub is_blocked-requires : goal.is_blocked-requires
is_blocked-requires c =
    let self = c.args.self.now in
    first_holds (λ (job : Job). All (FitsLayout self.store.layout) job.ops) c.loop-worker.worker self.turns.left
    c.in-Some.job.now c.requires.left (sym c.in-Some.ensures)

pub returns : goal.returns
returns c =
    let self = c.args.self.now in
    let past : c.args.workers ≤ c.loop-worker.worker = c.loop-worker-test.false in (
      λ _. all_blocked c.args.workers self.turns.left self.store c.requires.small
          (λ k lt. c.loop-worker.invariant k (omega (arith, lt, past))),
      λ _. refl,
    )
