use Rattle.std.proofs.Common.{◌≡◌}
use Rattle.dstm_tl2_steps.proofs.LockingAll.{Locks}
use Rattle.dstm_tl2_steps.proofs.steps.Steps.lock_all.Given as goal

abbrev pub invariant-loop-write : goal.invariant-loop-write
invariant-loop-write g l = record {
  so_far : Locks g.L.Law.holds l.words g.B.InCall.began l.fn.self l.opened.writes l.write-index l.self;
  counted : l.locked ≡ l.write-index;
}
