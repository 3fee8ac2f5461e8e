use Rattle.std.proofs.Common.{length, ◌-◌}
use Rattle.dstm_report.proofs.WorkerPlaces.{StandsAt}
use Rattle.dstm_report.proofs.turns.Turns.places.Given as goal

abbrev pub invariant-loop-place : goal.invariant-loop-place
invariant-loop-place l = StandsAt l.self-inside.jobs.now l.self.left l.worker l.places.items l.place

abbrev pub decreases-loop-place : goal.decreases-loop-place
decreases-loop-place l = length l.self-inside.jobs.now - l.place
