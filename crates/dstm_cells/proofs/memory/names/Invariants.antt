use Rattle.std.proofs.Common.{◌≡◌, length}
use Rattle.dstm_cells.specs.Cells.{AreNamed}
use Rattle.dstm_cells.proofs.memory.names.Given as goal

-- so many were named
abbrev pub invariant-loop-number : goal.invariant-loop-number
invariant-loop-number g l = (length l.cells.items ≡ l.number) × AreNamed l.first l.cells.items
