use Rattle.dstm_machines.proofs.Pasts.{past_past}
use Rattle.dstm_steps.proofs.steps.Steps.pass.Goals as goal

pub returns-clause-past : goal.returns-clause-past
returns-clause-past g c =
    past_past _ _ _ (past_past _ _ _ c.look_number-number.ensures.past c.in_default.ensures.past)
    c.look_self.ensures.past
