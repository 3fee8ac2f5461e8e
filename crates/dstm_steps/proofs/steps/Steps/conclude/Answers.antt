use Rattle.dstm_steps.proofs.Meeting.{small_rank}
use Rattle.dstm_machines.proofs.Pasts.{past_past}
use Rattle.std.proofs.Common.{sym, ◌∙◌}
use Rattle.dstm_steps.proofs.steps.Steps.conclude.Goals as goal

pub rank_up-requires-clause-small : goal.rank_up-requires-clause-small
rank_up-requires-clause-small g c =
    small_rank c.in_ok-pass.ensures.goes_on
    (rw (c.manager.ensures, c.in_ok-pass.ensures.goes_on.shape) at (sym c.rises.ensures ∙ c.if-rises.true))

pub returns-then-rises-clause-past : goal.returns-then-rises-clause-past
returns-then-rises-clause-past g c = past_past _ _ _ c.in_ok-pass.ensures.past c.rank_up.ensures.past
