use Rattle.std.proofs.Common.{◌≡◌, ◌++◌, length}
use Rattle.std.specs.Vec.Iter.{into_iter_items}
use Rattle.dstm_tables.specs.Founders.{home_there}
use Rattle.dstm_cells.specs.Runs.{TakesBackEach, caller_at}
use Rattle.dstm_cells.specs.declared.memory.Seat.{Seat}
use Rattle.dstm_cells.proofs.memory.Memory.retire_all.Given as goal

-- the founder stays the table's, and the parts of the seats so far were taken back
abbrev pub invariant-loop-seat : goal.invariant-loop-seat
invariant-loop-seat g l = record {
  rest : l.yielded ++ into_iter_items l.seat-iterator ≡ l.fn.seats.items;
  table : home_there l.founder ≡ l.fn.table;
  takes : (other : Seat _) →
      TakesBackEach g.L.Law.holds (length l.yielded) l.fn.founder (caller_at l.fn.seats.items other) l.founder;
}
