-- Between calls no stamp and no rank is left.
use Rattle.std.proofs.Common.{Bool, List, Option, [], ap, arith, false, inl, inr, refl, subst, sym, true, ◌∙◌, ◌∷◌, ◌≡◌, ◌≢◌, ◌⊎◌}
use Rattle.dstm_core.proofs.Base.{AllowedAs, Event, LocalState, after, cases_Bool, cond_both, is_outside, nat_tests}
use Rattle.dstm_order.proofs.Base.{Begin, Beginning, Doing, Done, Due, Enrol, Enrolling, IsCall, IsDue, Kind, Lcg, Leaving, Obeys, Outside, Quit, Rank, Shape, Stamp, Task, Work, effort_of, has_begun, in_beginning, is_begin, is_spent, just, newest_of, state_after}
use Rattle.dstm_order.proofs.Beginnings.{none_after}
use Rattle.dstm_order.proofs.Rows.{beginning_by}
use Rattle.dstm_order.specs.Beginnings.{IsClear}
use Rattle.dstm_progress.specs.Calls.{EveryCallLeavesNothing, NothingAtFirst}
use Rattle.dstm_progress.proofs.Beginnings.{begin_kind, spent_at}
use Rattle.dstm_progress.proofs.Calls.{inside_phase, nothing_due}
use Rattle.dstm_progress.proofs.Own.{AreAllowed}
use Rattle.dstm_progress.proofs.OwnEvents.{after_own, allowed_own}

-- ---- one event

-- an event of an attempt under way leaves nothing
clear_inside : (s : Shape) {l : LocalState} (e : Event) (k : Kind) → AllowedAs k s l e → l.phase ≢ Outside →
    IsClear l → IsClear (after k s l e)
clear_inside s e Stamp a i h = absurd (i a.2.0)
clear_inside s {l = l} e Rank a i h = record { no_stamp = h.no_stamp; no_rank = inside_phase l.phase i }
clear_inside s e Begin a i h = record { no_stamp = refl; no_rank = refl }
clear_inside s e k a i h =
    record { no_stamp = grind (arith, nat_tests, h.no_stamp); no_rank = grind (arith, nat_tests, h.no_rank) }

clear_at : (s : Shape) (l : LocalState) (e : Event) {k : Kind} → e.kind ≡ k → IsClear (after k s l e) →
    IsClear (after e.kind s l e)
clear_at s l e {k = k} is h = subst (λ k. IsClear (after k s l e)) (sym is) h

-- ---- to begin: either nothing is left so far, or the caller is not spent, so that the call goes on to its Begin
module _ (s : Shape) (fresh : Bool) (l : LocalState) (e : Event) where
  abbrev Goes : LocalState → Type 0
  Goes m = IsClear m ⊎ (is_spent s m ≡ false)

  abbrev On : Due → Type 0
  On d = IsDue d e → is_begin e.kind ≡ false → Goes (after e.kind s l e)

  at_kind : {k : Kind} → e.kind ≡ k → Goes (after k s l e) → Goes (after e.kind s l e)
  at_kind {k = k} is h = subst (λ k. Goes (after k s l e)) (sym is) h

  quits : Goes l → Goes (after Quit s l e)
  quits (inl h) = inl (record { no_stamp = h.no_stamp; no_rank = h.no_rank })
  quits (inr h) = inr h

  goes_on : (o : Option Event) → Goes l → On (in_beginning s fresh o l)
  goes_on o h = beginning_by On s fresh o l (λ x n. absurd x) (λ x n. at_kind x.0 (quits h))
      (λ free _ x n. at_kind x.0 (inr free)) (λ free x n. at_kind x.0 (inr free))
      (λ x n. absurd (let no_way : true ≡ false = sym (ap is_begin x.0) ∙ n in cc))

-- ---- a call

module _ (s : Shape) {l : LocalState} (g : Lcg) (clear : IsClear l) where
  goes_so_far : (fresh : Bool) (es : List Event) → Obeys (Beginning fresh) s l g es → has_begun (newest_of es) ≡ false →
      IsClear (state_after s l es) ⊎ (is_spent s (state_after s l es) ≡ false)
  goes_so_far fresh [] h n = inl clear
  goes_so_far fresh (e ∷ es) h n =
      goes_on s fresh (state_after s l es) e (newest_of es)
      (goes_so_far fresh es h.0 (none_after (newest_of es) s fresh (state_after s l es) e h.1)) h.1 n

  begin_clears : {fresh : Bool} {es : List Event} → IsCall (Beginning fresh) s l g es → IsClear (state_after s l es)
  begin_clears {fresh = fresh} {es = es} h = by es h (cases_Bool (has_begun (newest_of es)))
    where
      begun : (es : List Event) → has_begun (newest_of es) ≡ true → IsClear (state_after s l es)
      begun [] q = absurd (cc)
      begun (e ∷ es) q =
          clear_at s (state_after s l es) e (begin_kind e.kind q) (record { no_stamp = refl; no_rank = refl })

      none : (es : List Event) → IsClear (state_after s l es) ⊎ (is_spent s (state_after s l es) ≡ false) →
          is_spent s (state_after s l es) ≡ true → IsClear (state_after s l es)
      none es (inl x) q = x
      none es (inr x) q = absurd (let no_way : true ≡ false = sym q ∙ x in cc)

      by : (es : List Event) → IsCall (Beginning fresh) s l g es →
          (has_begun (newest_of es) ≡ true) ⊎ (has_begun (newest_of es) ≡ false) → IsClear (state_after s l es)
      by es h (inl q) = begun es q
      by es h (inr q) =
          none es (goes_so_far fresh es h.obeys q) (spent_at fresh s (newest_of es) (state_after s l es) q h.done).1

  does_clear : (w : Work) (es : List Event) → AreAllowed s l es → Obeys (Doing w) s l g es →
      IsClear (state_after s l es)
  does_clear w [] a h = clear
  does_clear w (e ∷ es) a h =
      clear_inside s e e.kind a.1
      (λ out. nothing_due w s (newest_of es) (state_after s l es) (effort_of s l g es) e out h.1)
      (does_clear w es a.0 h.0)

  leave_clears : (es : List Event) → AreAllowed s l es → Obeys Leaving s l g es → IsClear (state_after s l es)
  leave_clears [] a h = clear
  leave_clears (e ∷ es) a h =
      let old = leave_clears es a.0 h.0 in
      clear_at s (state_after s l es) e
      (cond_both (is_outside (state_after s l es).phase) Done (just Quit) (λ d. IsDue d e → e.kind ≡ Quit)
      (λ _ x. absurd x) (λ _ x. x.0) h.1) (record { no_stamp = old.no_stamp; no_rank = old.no_rank })

  enrol_clears : (es : List Event) → Obeys Enrolling s l g es → IsClear (state_after s l es)
  enrol_clears [] h = clear
  enrol_clears (e ∷ es) h =
      let old = enrol_clears es h.0 in
      clear_at s (state_after s l es) e
      (cond_both _ Done (just Enrol) (λ d. IsDue d e → e.kind ≡ Enrol) (λ _ x. absurd x) (λ _ x. x.0) h.1)
      (record { no_stamp = old.no_stamp; no_rank = old.no_rank })

  call_clears : {t : Task} {es : List Event} → AreAllowed s l es → IsCall t s l g es → IsClear (state_after s l es)
  call_clears {t = Enrolling} {es = es} a h = enrol_clears es h.obeys
  call_clears {t = (Beginning fresh)} a h = begin_clears h
  call_clears {t = Leaving} {es = es} a h = leave_clears es a h.obeys
  call_clears {t = (Doing w)} {es = es} a h = does_clear w es a h.obeys

-- ---- in a run

pub nothing_first : NothingAtFirst
nothing_first = record { no_stamp = refl; no_rank = refl }

pub leaves_nothing : EveryCallLeavesNothing
leaves_nothing = λ t s c g events before run h clear.
    subst IsClear (sym (after_own s c run before events h.own))
    (call_clears s g clear (allowed_own s c run before events h.core h.own) h.call)
