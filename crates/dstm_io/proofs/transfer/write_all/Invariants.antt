use Rattle.std.proofs.Common.{◌-◌, length}
use Rattle.dstm_io.proofs.Progress.{HasWritten}
use Rattle.dstm_io.proofs.transfer.write_all.Given as goal

abbrev pub invariant-loop-written : goal.invariant-loop-written
invariant-loop-written g l =
    HasWritten (g.K.Sink.taken l.initial.sink) (g.K.Sink.taken l.sink) (g.K.Sink.faults l.initial.sink)
    (g.K.Sink.faults l.sink) l.bytes l.written

abbrev pub decreases-loop-written : goal.decreases-loop-written
decreases-loop-written g l = length l.bytes - l.written
