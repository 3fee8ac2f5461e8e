use Rattle.std.specs.Prelude.{◌≡◌, ◌<◌, ℕ, None}
use Rattle.dstm_report.specs.Lawful.{first_job}
use Rattle.dstm_crew.proofs.sweeping.least_left.Given as goal

abbrev pub invariant-loop-worker : goal.invariant-loop-worker
invariant-loop-worker l = (w : ℕ) → w < l.worker → first_job w l.turns.left ≡ None
