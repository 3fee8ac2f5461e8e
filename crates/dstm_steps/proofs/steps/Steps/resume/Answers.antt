use Rattle.std.proofs.Common.{refl, ap, sym, ◌∙◌}
use Rattle.dstm_core.specs.declared.state.Phase.TheVariants.{Running}
use Rattle.dstm_words.specs.Seats.{found_in}
use Rattle.dstm_steps.proofs.Checks.{own_below}
use Rattle.dstm_steps.proofs.GivingWay.{is_killed, stays_live}
use Rattle.dstm_steps.proofs.steps.Steps.resume.Goals as goal

pub status-status-requires-clause-below : goal.status-status-requires-clause-below
status-status-requires-clause-below g c = own_below c.requires.under (rw c.requires.phase refl)

pub returns-in-Ok-clause-good : goal.returns-in-Ok-clause-good
returns-in-Ok-clause-good g c ok =
    stays_live 2 Running c.requires.under c.exchange-found.ensures.went c.exchange-found.ensures.rest refl refl
    (ap found_in c.in-Ok.is ∙ c.in-Ok.ensures.answer ∙ c.code.ensures) refl c.requires.agreed.0 c.requires.tries

pub returns-in-Err-clause-killed : goal.returns-in-Err-clause-killed
returns-in-Err-clause-killed g c failed =
    is_killed 2 Running c.requires.under c.exchange-found.ensures.went c.exchange-found.ensures.rest refl refl
    (λ q. c.in-Err.ensures.answer (sym (ap found_in c.in-Err.is) ∙ q ∙ sym c.code.ensures)) c.requires.agreed.1 refl
