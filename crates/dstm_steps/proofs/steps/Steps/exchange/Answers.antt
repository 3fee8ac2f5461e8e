use Rattle.std.proofs.Common.{refl}
use Rattle.dstm_machines.specs.Traces.Access.{Exchange}
use Rattle.dstm_steps.proofs.Stepping.{may_make, took, exchange_operand, exchange_object}
use Rattle.dstm_steps.proofs.steps.Steps.exchange.Goals as goal

pub exchange-requires-clause-allowed : goal.exchange-requires-clause-allowed
exchange-requires-clause-allowed g c =
    may_make c.requires.under (Exchange c.args.expected c.args.put) c.args.kind c.args.place
    (λ q. absurd (exchange_object c.args.kind c.requires.exchanges q)) c.requires.may

pub returns-clause-went : goal.returns-clause-went
returns-clause-went g c =
    took c.requires.under (Exchange c.args.expected c.args.put) c.exchange.ensures.event c.exchange.ensures.seat
    (refl, exchange_operand c.args.kind _ c.requires.exchanges)
