use Rattle.std.proofs.Common.{refl}
use Rattle.dstm_machines.specs.Traces.Access.{Add}
use Rattle.dstm_steps.specs.Under.{now}
use Rattle.dstm_steps.proofs.Stepping.{took, add_operand}
use Rattle.dstm_steps.proofs.steps.Steps.add.Goals as goal

pub returns-clause-went : goal.returns-clause-went
returns-clause-went g c =
    took c.requires.under Add c.add.ensures.event c.add.ensures.seat
    (refl, add_operand c.args.kind c.args.words.now.terms.shape (now c.args.words.now c.args.self.now) _ c.requires.adds)
