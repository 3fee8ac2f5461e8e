use Rattle.dstm_io.proofs.Repeats.{reads_on}
use Rattle.dstm_io.proofs.again.read_again.Goals as goal

pub loop-preserved : goal.loop-preserved
loop-preserved g c after r buf does = c.loop.invariant after r buf (reads_on _ _ after r buf c.in-Err.ensures.bytes does)
