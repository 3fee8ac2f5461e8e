use Rattle.std.proofs.Common.{◌≡◌, ◌<◌, ℕ, Ok}
use Rattle.std.specs.Prelude.{slice_index_or}
use Rattle.dstm_cells.specs.declared.memory.Seat.{Seat}
use Rattle.dstm_cells.proofs.memory.how_all_ended.Given as goal

-- those before this one ended well
abbrev pub invariant-loop-seat : goal.invariant-loop-seat
invariant-loop-seat g l = (k : ℕ) (other : Seat _) → k < l.seat-index → (slice_index_or l.fn.seats k other).ended ≡ Ok tt
