use Rattle.std.proofs.Common.{drop}
use Rattle.dstm_steps.proofs.Checks.{Checking}
use Rattle.dstm_order.specs.Order.{in_checking}
use Rattle.dstm_steps.specs.Under.{now}
use Rattle.dstm_steps.proofs.steps.Steps.check_rest.Given as goal

abbrev pub invariant-loop-read : goal.invariant-loop-read
invariant-loop-read g l =
    Checking g.L.Law.holds l.words g.B.InCall.began in_checking (now l.words l.fn.self) l.self
    (drop l.read-index l.reads)
