use Rattle.std.proofs.Common.{◌≡◌, ℕ, ◌<◌, None}
use Rattle.std.specs.Prelude.{IfSome}
use Rattle.dstm_model.specs.Job.{apply_job}
use Rattle.dstm_report.specs.Lawful.{first_job}
use Rattle.dstm_report.proofs.replay.Replay.is_stuck.Given as goal

-- the first jobs left of the workers so far are blocked
abbrev pub invariant-loop-worker : goal.invariant-loop-worker
invariant-loop-worker l =
    (k : ℕ) → k < l.worker → IfSome (first_job k l.self.turns.left) (λ job. apply_job job.ops l.self.store ≡ None)
