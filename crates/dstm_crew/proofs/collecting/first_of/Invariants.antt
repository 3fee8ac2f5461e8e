use Rattle.std.proofs.Common.{◌≡◌, ◌<◌, ℕ, None}
use Rattle.dstm_crew.specs.Collecting.{number_in}
use Rattle.dstm_crew.proofs.collecting.first_of.Given as goal

abbrev pub invariant-loop-place : goal.invariant-loop-place
invariant-loop-place l = (k : ℕ) → k < l.place → number_in l.numbers k ≡ None
