use Rattle.std.proofs.Common.{◌-◌}
use Rattle.dstm_text.specs.Number.{AreAtFront}
use Rattle.dstm_text.proofs.number.digits_at_front.Given as goal

abbrev pub invariant-loop-end : goal.invariant-loop-end
invariant-loop-end l = AreAtFront l.line l.end l.number

abbrev pub decreases-loop-end : goal.decreases-loop-end
decreases-loop-end l = l.most - l.end
