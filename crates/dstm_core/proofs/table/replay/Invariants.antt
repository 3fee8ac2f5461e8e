use Rattle.dstm_core.proofs.Replaying.{Replayed}
use Rattle.dstm_core.proofs.table.replay.Given as goal

abbrev pub invariant-loop-i : goal.invariant-loop-i
invariant-loop-i l = Replayed l.shape l.trace l.i l.table.words.items l.table.callers.items
