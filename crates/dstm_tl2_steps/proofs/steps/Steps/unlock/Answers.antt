use Rattle.std.proofs.Common.{refl}
use Rattle.dstm_machines.specs.Traces.Access.{Store}
use Rattle.dstm_tl2_steps.proofs.Stepping.{went_on}
use Rattle.dstm_tl2_steps.proofs.steps.Steps.unlock.Goals as goal

pub returns-clause-went : goal.returns-clause-went
returns-clause-went g c again under = (
  c.store.ensures.event.0,
  went_on (Store c.args.word) under c.store.ensures.event.1 refl c.lock-lock.ensures c.store.ensures.seat
      (refl, refl, refl) refl refl refl,
)
