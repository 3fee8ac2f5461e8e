use Rattle.std.proofs.Common.{drop}
use Rattle.dstm_tl2_steps.proofs.Checking.{Checking}
use Rattle.dstm_tl2_steps.proofs.steps.Steps.check_all.Given as goal

abbrev pub invariant-loop-slot : goal.invariant-loop-slot
invariant-loop-slot g l =
    Checking g.L.Law.holds l.words g.B.InCall.began l.fn.self l.opened.writes l.self (drop l.slot-index l.opened.reads)
