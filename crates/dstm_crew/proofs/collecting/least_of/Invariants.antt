use Rattle.dstm_crew.proofs.Least.{IsBoundBefore, IsLeastBefore}
use Rattle.dstm_crew.proofs.collecting.least_of.Given as goal

abbrev pub invariant-loop-place : goal.invariant-loop-place
invariant-loop-place l = IsLeastBefore l.numbers l.place l.least × IsBoundBefore l.numbers l.place l.least l.bound
