use Rattle.dstm_io.proofs.Repeats.{writes_on}
use Rattle.dstm_io.proofs.again.write_again.Goals as goal

pub loop-preserved : goal.loop-preserved
loop-preserved g c after r buf does = c.loop.invariant after r buf (writes_on _ _ after r buf c.in-Err.ensures.bytes does)
