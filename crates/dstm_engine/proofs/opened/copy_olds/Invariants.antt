use Rattle.std.proofs.Common.{◌≡◌, ◌++◌, map, take}
use Rattle.dstm_engine.specs.Mirror.{slot_old}
use Rattle.dstm_engine.proofs.opened.copy_olds.Given as goal

abbrev pub invariant-loop-slot : goal.invariant-loop-slot
invariant-loop-slot l =
    l.values.items ≡ l.initial.values.items ++ map slot_old (take l.slot-index l.writes)
