use Rattle.std.proofs.Common.{refl}
use Rattle.dstm_machines.specs.Traces.Access.{Load}
use Rattle.dstm_steps.specs.Under.{now}
use Rattle.dstm_steps.proofs.Stepping.{may_make, took, load_operand}
use Rattle.dstm_steps.proofs.steps.Steps.look.Goals as goal

pub load-requires-clause-allowed : goal.load-requires-clause-allowed
load-requires-clause-allowed g c =
    may_make c.requires.under Load c.args.kind c.args.place c.requires.object c.requires.may

pub returns-clause-went : goal.returns-clause-went
returns-clause-went g c =
    took c.requires.under Load c.load.ensures.event c.load.ensures.seat
    (refl, load_operand c.args.kind c.args.words.now.terms.shape (now c.args.words.now c.args.self.now) _ c.requires.loads)
