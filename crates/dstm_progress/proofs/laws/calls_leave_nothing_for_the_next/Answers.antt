use Rattle.dstm_progress.proofs.Clearing.{leaves_nothing, nothing_first}
use Rattle.dstm_progress.proofs.laws.calls_leave_nothing_for_the_next.Goals as goal

pub returns : goal.returns
returns c = record { first = nothing_first; then = leaves_nothing }
