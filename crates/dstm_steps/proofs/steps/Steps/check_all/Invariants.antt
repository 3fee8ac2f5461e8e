use Rattle.std.proofs.Common.{drop}
use Rattle.dstm_steps.proofs.Checks.{Checking}
use Rattle.dstm_core.specs.Traces.{IsPastOf}
use Rattle.dstm_order.specs.Order.{in_pass}
use Rattle.dstm_words.specs.Seats.{view_of}
use Rattle.dstm_steps.specs.Under.{now}
use Rattle.dstm_steps.proofs.steps.Steps.check_all.Given as goal

abbrev pub invariant-loop-read : goal.invariant-loop-read
invariant-loop-read g l = record {
  checking : Checking g.L.Law.holds l.words g.B.InCall.began in_pass (now l.words l.fn.self) l.self
      (drop l.read-index l.reads);
  past : IsPastOf (view_of l.fn.self.seat).log (view_of l.self.seat).log;
}
