use Rattle.std.proofs.Common.{◌≡◌, ◌++◌, filter, map, take}
use Rattle.dstm_engine.specs.Mirror.{slot_value}
use Rattle.dstm_steps.specs.Sorts.{is_kept}
use Rattle.dstm_engine.proofs.opened.copy_reads.Given as goal

abbrev pub invariant-loop-slot : goal.invariant-loop-slot
invariant-loop-slot l =
    l.values.items ≡ l.initial.values.items ++ map slot_value (filter is_kept (take l.slot-index l.reads))
