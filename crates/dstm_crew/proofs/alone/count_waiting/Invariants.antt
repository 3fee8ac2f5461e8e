use Rattle.dstm_crew.proofs.Waits.{IsCounted}
use Rattle.dstm_crew.proofs.alone.count_waiting.Given as goal

abbrev pub invariant-loop-worker : goal.invariant-loop-worker
invariant-loop-worker l = IsCounted l.workers l.turns.left l.worker l.count l.first
