use Rattle.std.proofs.Common.{ap, sym, ◌∙◌}
use Rattle.dstm_core.specs.State.{res}
use Rattle.dstm_steps.proofs.Encounters.{code_over}
use Rattle.dstm_steps.proofs.Meeting.{code_in}
use Rattle.dstm_steps.proofs.steps.Steps.resolve_word.Goals as goal

pub resolve_version-requires-2-clause-over : goal.resolve_version-requires-2-clause-over
resolve_version-requires-2-clause-over g c =
    let status = c.look_status-code.ensures in
    code_over c.look_status-code.result
    (code_in status.under c.look_status-code.result (ap (λ l. (res l).status) status.state))
    (sym c.is_live.ensures ∙ c.if-is_live.false)
