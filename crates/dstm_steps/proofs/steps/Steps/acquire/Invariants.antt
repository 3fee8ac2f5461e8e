use Rattle.std.proofs.Common.{◌<◌, ◌-◌, None}
use Rattle.dstm_core.specs.declared.event.Kind.TheVariants.{LookObj}
use Rattle.dstm_order.specs.Order.Due.{Step}
use Rattle.dstm_order.specs.declared.TheConstants.{MAX_MISSED}
use Rattle.dstm_steps.specs.Opening.{HeldApart}
use Rattle.dstm_steps.specs.Under.{Under, now}
use Rattle.dstm_steps.proofs.steps.Steps.acquire.Given as goal

abbrev pub invariant-retries : goal.invariant-retries
invariant-retries g l = record {
  under : Under g.L.Law.holds l.words g.B.InCall.began l.self (Step LookObj l.object) None;
  apart : HeldApart (now l.words l.fn.self) (now l.words l.self);
  tries : l.self.missed < MAX_MISSED;
}

abbrev pub decreases-retries : goal.decreases-retries
decreases-retries g l = 64 - l.self.missed
