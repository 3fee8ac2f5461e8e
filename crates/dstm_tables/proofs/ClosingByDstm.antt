-- Under DSTM, what is known of a caller's attempts by its own log is known by every longer log in which it has made no more events: so
-- by the record of its table.
use Rattle.std.proofs.Common.{◌≡◌, ◌∙◌, ◌<◌, ◌≤◌, ◌++◌, ℕ, List, [], sym, ap, subst, arith}
use Rattle.dstm_machines.proofs.Own.{own_later}
use Rattle.dstm_model.specs.declared.value.Val.{Val}
use Rattle.dstm_core.specs.Events.{Event}
use Rattle.dstm_core.specs.Runs.{Core, local}
use Rattle.dstm_core.specs.Traces.{IsPastOf, events_of}
use Rattle.dstm_core.specs.declared.shape.Shape.{Shape}
use Rattle.dstm_core.proofs.Pasts.{core_past}
use Rattle.dstm_progress.proofs.Disturbing.{disturbed_stays}
use Rattle.dstm_progress.proofs.Ends.{callers_in_range}
use Rattle.dstm_progress.proofs.OwnEvents.{after_own}
use Rattle.dstm_progress.specs.Disturbed.{Disturbed}
use Rattle.dstm_engine.specs.Attempts.{completes_pass, is_look_self, looks_at_object}
use Rattle.dstm_tables.specs.Attempts.{HasCommitted, HasFewSights, WasAborted, WasGivenUpAfter, quits, seen_last}
use Rattle.dstm_engine.proofs.BegunThere.{count_later}
use Rattle.dstm_engine.proofs.FewSights.{count_kinds, sights_more}
use Rattle.dstm_engine.proofs.Rechecking.{NoSelf}
use Rattle.dstm_tables.proofs.SeenLast.{seen_last-agrees, seen_last-skips}
use Rattle.dstm_tables.proofs.StayingByDstm.{aborted_stays, committed_stays}

-- the caller's state is the one that it knows
pub state_at_close : (shape : Shape) (c : ℕ) (old new : List Event) → events_of c new ≡ events_of c old →
    local shape new c ≡ local shape old c
state_at_close shape c old new own = after_own shape c new old [] own

module _ (shape : Shape) (start : List Val) (c : ℕ) (old new : List Event) (core : Core shape new) (caller : c < shape.callers)
    (past : IsPastOf old new) (own : events_of c new ≡ events_of c old) where
  pub same : local shape new c ≡ local shape old c
  same = state_at_close shape c old new own

  whole : Core shape (past.later ++ old)
  whole = subst (Core shape) (sym past.whole) core

  quiet : events_of c past.later ≡ []
  quiet = own_later c old new [] past own

  pub committed : (i : ℕ) → 0 < i → i ≤ (local shape old c).begun → HasCommitted shape old c i →
      HasCommitted shape new c i
  committed i some few was =
      let most = (callers_in_range shape old c (core_past shape past.later old whole)).0 in
      rw (← past.whole) (committed_stays shape past.later old c i whole caller some (omega arith) was)

  pub aborted : (i : ℕ) → 0 < i → i ≤ (local shape old c).begun → WasAborted shape old c i → WasAborted shape new c i
  aborted i some few was =
      let most = (callers_in_range shape old c (core_past shape past.later old whole)).0 in
      rw (← past.whole) (aborted_stays shape past.later old c i whole caller some (omega arith) was)

  pub disturbed : (i : ℕ) → Disturbed shape old c i → Disturbed shape new c i
  disturbed i was = rw (← past.whole) (disturbed_stays shape past.later old c i was)

  pub same_sight : (i : ℕ) →
      seen_last shape start new new c i ≡ seen_last shape start old old c i
  same_sight i =
      ap (λ (log : List Event). seen_last shape start log log c i) (sym past.whole)
      ∙ seen_last-skips shape start (past.later ++ old) c i past.later old (subst NoSelf (sym quiet) tt)
      ∙ seen_last-agrees shape start c i past.later [] old whole (core_past shape past.later old whole) caller

  pub sighted : (more i : ℕ) → HasFewSights more shape old c i → HasFewSights more shape new c i
  sighted more i few =
      rw (← past.whole) (let later = sights_more shape c i past.later old in
      let none = ap (count_kinds is_look_self) quiet in
      let looks = count_later looks_at_object shape past.later old c i in omega arith)

  pub given_up : (rechecks i : ℕ) → WasGivenUpAfter rechecks shape old c i → WasGivenUpAfter rechecks shape new c i
  given_up rechecks i was = record {
    sights =
        rw (← past.whole) (let more = count_later completes_pass shape past.later old c i in
        let many = was.sights in omega arith);
    no_more = sighted rechecks i was.no_more;
    quit =
        rw (← past.whole) (let more = count_later quits shape past.later old c i in
        let some = was.quit in omega arith);
  }
