use Rattle.dstm_progress.proofs.Ends.{callers_in_range, spent_used_up}
use Rattle.dstm_progress.proofs.laws.callers_are_in_range.Goals as goal

pub returns : goal.returns
returns c = record { callers = callers_in_range; spent = spent_used_up }
