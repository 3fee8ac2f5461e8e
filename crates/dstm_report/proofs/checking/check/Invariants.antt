use Rattle.std.proofs.Common.{take}
use Rattle.dstm_report.specs.Replaying.{HasFollowed}
use Rattle.dstm_report.proofs.checking.check.Given as goal

abbrev pub invariant-loop-at : goal.invariant-loop-at
invariant-loop-at l = HasFollowed l.workload (take l.at l.rows) l.replay
