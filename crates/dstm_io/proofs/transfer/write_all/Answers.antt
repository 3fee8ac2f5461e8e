use Rattle.std.proofs.Common.{rules}
use Rattle.dstm_io.proofs.Progress.{has_written_more}
use Rattle.dstm_io.proofs.transfer.write_all.Goals as goal

pub loop-written-preserved : goal.loop-written-preserved
loop-written-preserved g c =
    let write = c.in-Ok.ensures in
    has_written_more _ _ _ _ _ _ _ _ _ c.loop-written.invariant (search rules) write.added write.no_fault
