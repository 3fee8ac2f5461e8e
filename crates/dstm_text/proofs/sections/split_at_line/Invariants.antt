use Rattle.std.proofs.Common.{◌-◌, length}
use Rattle.dstm_text.proofs.LineSearch.{Searched}
use Rattle.dstm_text.proofs.sections.split_at_line.Given as goal

abbrev pub invariant-loop-length : goal.invariant-loop-length
invariant-loop-length l = Searched l.bytes l.mark l.start

abbrev pub decreases-loop-length : goal.decreases-loop-length
decreases-loop-length l = length l.bytes - l.start
