-- What a call leaves behind that has left its attempt.
use Rattle.std.proofs.Common.{◌∙◌, ◌≡◌, ap, arith, refl, sym}
use Rattle.dstm_core.proofs.Base.{LocalState, local}
use Rattle.dstm_order.proofs.Base.{Outside, effort_of, newest_of, state_after}
use Rattle.dstm_progress.proofs.Own.{call_begun}
use Rattle.dstm_progress.specs.Ends.{ended_as}
use Rattle.dstm_progress.specs.Calls.{EveryAgainIsAborted, EveryAgainWasDisturbed, EveryCallKeepsItsAttempt}
use Rattle.dstm_progress.proofs.Causes.{again_has_its_cause, has_left}
use Rattle.dstm_progress.proofs.Disturbing.{cause_disturbs}
use Rattle.dstm_progress.proofs.Ends.{end_stays}
use Rattle.dstm_progress.proofs.OwnEvents.{after_own, allowed_own}
use Rattle.dstm_progress.proofs.Sound.{sound_before}

pub keeps_its_attempt : EveryCallKeepsItsAttempt
keeps_its_attempt = λ w s c g events before run h.
    ap (λ (l : LocalState). l.begun) (after_own s c run before events h.own)
    ∙ call_begun s w (local s before c) g events (allowed_own s c run before events h.core h.own) h.call.obeys

pub is_aborted : EveryAgainIsAborted
is_aborted = λ w s c g events before run again h i q.
    let l = local s before c in
    let left = has_left w (newest_of events) (state_after s l events) (effort_of s l g events) again q in
    let now = after_own s c run before events h.own in
    let begun = (sound_before s c run before events h.core h.own).begun i in
    let kept = keeps_its_attempt w s c g events before run h in
    let out : (local s run c).phase ≡ Outside = ap (λ (l : LocalState). l.phase) now ∙ left.0 in (
      out,
      λ later core. end_stays s run c out (omega arith) later core
          ∙ ap ended_as (ap (λ (l : LocalState). l.committed) now ∙ left.1),
    )

pub was_disturbed : EveryAgainWasDisturbed
was_disturbed = λ w s c g events before run again h i q.
    cause_disturbs again s c (local s run c).begun events before run h.own
    (sym (keeps_its_attempt w s c g events before run h)) refl
    (again_has_its_cause w s c g events before run again h i q)
