use Rattle.std.proofs.Common.{◌<◌, ◌≤◌, ℕ}
use Rattle.std.specs.Prelude.{slice_index_or}
use Rattle.dstm_attempts.specs.Attempts.{above}
use Rattle.dstm_cells.specs.declared.memory.Ended.{Ended}
use Rattle.dstm_cells.proofs.memory.are_before.Given as goal

-- what those before this one have committed has smaller numbers
abbrev pub invariant-loop-ended : goal.invariant-loop-ended
invariant-loop-ended g l = (k : ℕ) (other : Ended _) → k < l.ended-index → above (slice_index_or l.fn.ends k other).newest ≤ l.fn.number
