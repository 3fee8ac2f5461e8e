use Rattle.std.proofs.Common.{◌≡◌, ◌≢◌, ◌-◌, ◌≤◌}
use Rattle.dstm_tables.specs.Callers.{begun, let_go, round_of}
use Rattle.dstm_jobs.specs.declared.style.Style.TheVariants.{Loose}
use Rattle.dstm_tables.specs.Tells.{attempts_of}
use Rattle.dstm_crew.proofs.Retrying.{Waited}
use Rattle.dstm_crew.proofs.trying.try_job.Given as goal

abbrev pub invariant-loop-finished : goal.invariant-loop-finished
invariant-loop-finished l =
    (l.turns ≤ 64) × Waited l.style l.initial.caller l.caller × (l.style ≢ Loose → let_go l.caller ≡ let_go l.initial.caller)
    × (l.all ≡ l.initial.all)

abbrev pub decreases-loop-finished : goal.decreases-loop-finished
decreases-loop-finished l = attempts_of (round_of l.caller) - begun l.caller
