use Rattle.std.proofs.Common.{◌≡◌, ◌+◌, length}
use Rattle.dstm_tables.specs.Founders.{home_there, made_of}
use Rattle.dstm_cells.specs.Runs.{AreNumbered, GivesOutSeats, HaveNew}
use Rattle.dstm_cells.proofs.memory.Memory.seats.Given as goal

-- the founder stays the table's, and a seat with a new part was given out for each number so far
abbrev pub invariant-loop-seed : goal.invariant-loop-seed
invariant-loop-seed g l = record {
  table : home_there l.founder ≡ l.fn.table;
  made : made_of l.founder ≡ made_of l.fn.founder + l.seed;
  count : length l.seats.items ≡ l.seed;
  new : HaveNew g.L.Law.holds l.fn.table l.seats.items;
  numbered : AreNumbered l.seats.items;
  gives : GivesOutSeats g.L.Law.holds l.fn.founder l.seats.items l.founder;
}
