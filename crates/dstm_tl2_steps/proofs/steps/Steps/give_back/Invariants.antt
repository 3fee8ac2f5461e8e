use Rattle.dstm_tl2_steps.proofs.GivingBack.{GivesBack}
use Rattle.dstm_tl2_steps.proofs.steps.Steps.give_back.Given as goal

abbrev pub invariant-loop-i : goal.invariant-loop-i
invariant-loop-i g l = GivesBack g.L.Law.holds l.words g.B.InCall.began l.fn.self l.opened.writes l.locked l.i l.self
