use Rattle.dstm_steps.proofs.PutLoop.{PutsOf}
use Rattle.dstm_steps.proofs.steps.Steps.put_values.Given as goal

abbrev pub invariant-loop-i : goal.invariant-loop-i
invariant-loop-i g l = PutsOf g.L.Law.holds l.words g.B.InCall.began l.fn.self l.self l.first l.writes l.i
