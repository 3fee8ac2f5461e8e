use Rattle.std.proofs.Common.{refl}
use Rattle.dstm_machines.specs.Traces.Access.{Store}
use Rattle.dstm_steps.proofs.Stepping.{may_make, took, store_operand}
use Rattle.dstm_steps.proofs.steps.Steps.store.Goals as goal

pub store-requires-clause-allowed : goal.store-requires-clause-allowed
store-requires-clause-allowed g c =
    may_make c.requires.under (Store c.args.put) c.args.kind c.args.place (λ q. absurd (c.requires.object q)) c.requires.may

pub returns-clause-went : goal.returns-clause-went
returns-clause-went g c = (
  c.store.ensures.event.0,
  took c.requires.under (Store c.args.put) c.store.ensures.event.1 c.store.ensures.seat
      (refl, store_operand c.args.kind _ c.args.place c.args.put refl refl),
)
