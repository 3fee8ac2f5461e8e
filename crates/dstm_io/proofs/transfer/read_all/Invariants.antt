use Rattle.std.proofs.Common.{◌+◌, ◌-◌, vec_items}
use Rattle.dstm_io.proofs.Progress.{HasRead}
use Rattle.dstm_io.proofs.transfer.read_all.Given as goal

abbrev pub invariant-loop-filled : goal.invariant-loop-filled
invariant-loop-filled g l =
    HasRead (g.S.Source.left l.initial.source) (g.S.Source.left l.source) (g.S.Source.faults l.initial.source)
    (g.S.Source.faults l.source) (vec_items l.bytes) l.filled l.limit

abbrev pub decreases-loop-filled : goal.decreases-loop-filled
decreases-loop-filled g l = l.limit + 1 - l.filled
