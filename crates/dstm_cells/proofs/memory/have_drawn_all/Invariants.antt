use Rattle.std.proofs.Common.{◌≡◌, ◌+◌, ◌-◌, ◌^◌, take}
use Rattle.std.specs.Prelude.{min}
use Rattle.dstm_cells.specs.Cells.{drawn_by}
use Rattle.dstm_cells.proofs.memory.have_drawn_all.Given as goal

-- so many those before this one have drawn, and the one beside them
abbrev pub invariant-loop-ended : goal.invariant-loop-ended
invariant-loop-ended g l = l.drawn ≡ min (l.fn.own + drawn_by (take l.ended-index l.fn.ends)) (2 ^ 128 - 1)
