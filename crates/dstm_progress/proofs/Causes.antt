-- What a call answers that leaves its attempt has its cause in the call's events.
use Rattle.std.proofs.Common.{◌++◌, ◌==◌, ◌∙◌, ◌∷◌, ◌≡◌, ◌≢◌, ◌⊎◌, List, None, Option, Some, [], ap, arith, false, inl, inr, is_some, refl, subst, sym, true, ℕ}
use Rattle.dstm_core.proofs.Base.{Core, Event, LocalState, StatusWord, after, cases_Bool, eq-eqb, eqb-true, events_of, local, own_attempt, place}
use Rattle.dstm_core.proofs.Pasts.{core_past}
use Rattle.dstm_core.proofs.Underway.{is_outside_now}
use Rattle.dstm_order.proofs.Base.{Doing, Effort, IsDue, Kind, Lcg, LookStatus, Obeys, Outside, Paused, Phase, Quit, Shape, Step, Work, answer, answer_of, cause, due_after, effort_of, is_quit, just, most_missed, newest_of, next_or_first, quit_cause, state_after}
use Rattle.dstm_order.specs.declared.again.Again.{Again}
use Rattle.dstm_order.specs.declared.again.Again.TheVariants.{Killed}
use Rattle.dstm_order.proofs.Misses.{missed_is}
use Rattle.dstm_order.proofs.Validations.{due_kind}
use Rattle.dstm_progress.proofs.Answers.{none_committed, none_inside, quit_effort, quit_is, quit_keeps, some_cause}
use Rattle.dstm_progress.proofs.Calls.{newest_no_quit, nothing_due, quit_not_due}
use Rattle.dstm_progress.proofs.Own.{AreAllowed, call_begun, newest_own}
use Rattle.dstm_progress.specs.Causes.{Causes, Has, WaitsOut, finds_aborted, finds_stale}
use Rattle.dstm_progress.specs.Ends.{IsCurrent}
use Rattle.dstm_progress.specs.Calls.{EveryAgainHasItsCause}
use Rattle.dstm_progress.proofs.Ends.{left_in}
use Rattle.dstm_progress.proofs.GivingWay.{row_of, way_back}
use Rattle.dstm_progress.proofs.Leaves.{Left, LeftHow}
use Rattle.dstm_progress.proofs.Leaves.LeftHow.{by_commit, by_other, by_quit}
use Rattle.dstm_progress.proofs.OwnEvents.{after_own, allowed_own}
use Rattle.dstm_progress.proofs.Sound.{Sound, number_stays, sound_before}
use Rattle.dstm_progress.proofs.Staying.{table_says}
use Rattle.dstm_progress.proofs.StaleReads.{quit_object, stale_now}

-- a call that answers Again has left its attempt, which has not committed
pub has_left : (w : Work) (n : Option Event) (l : LocalState) (f : Effort) (a : Again) →
    answer (Doing w) n l f ≡ Some a → (l.phase ≡ Outside) × (l.committed ≡ false)
has_left w n l f a q = (outside (is_outside_now l.phase), uncommitted (cases_Bool l.committed))
  where
    outside : (l.phase ≡ Outside) ⊎ (l.phase ≢ Outside) → l.phase ≡ Outside
    outside (inl o) = o
    outside (inr i) = absurd (none_inside w n l f a i q)

    uncommitted : (l.committed ≡ true) ⊎ (l.committed ≡ false) → l.committed ≡ false
    uncommitted (inl c) = absurd (none_committed w n l f a c q)
    uncommitted (inr c) = c

quit_kind : (k : Kind) → is_quit k ≡ true → k ≡ Quit
quit_kind Quit h = refl
quit_kind k h = absurd (cc)

is_paused_now : (p : Phase) → (p ≡ Paused) ⊎ (p ≢ Paused)
is_paused_now Paused = inl refl
is_paused_now p = inr (λ q. cc)

-- ---- Waited

waited : (w : Work) (s : Shape) (l : LocalState) (g : Lcg) (e : Event) (es : List Event) →
    Obeys (Doing w) s l g (e ∷ es) → AreAllowed s l es → Sound l → e.kind ≡ Quit →
    (state_after s l es).phase ≢ Outside → (state_after s l es).stale ≡ false →
    ((effort_of s l g es).missed == most_missed) ≡ false → WaitsOut s l (e ∷ es)
waited w s l g e es o a h k i st m = go (is_paused_now old.phase)
  where
    old : LocalState
    old = state_after s l es

    f : Effort
    f = effort_of s l g es

    quit_due : (n : ℕ) × (due_after (Doing w) s l g es ≡ Step Quit n)
    quit_due = due_kind (due_after (Doing w) s l g es) e o.1 k

    table : next_or_first (newest_of es) w s.manager old f ≡ Step Quit quit_due.0
    table = table_says w s (newest_of es) old f i st m quit_due.1

    go : (old.phase ≡ Paused) ⊎ (old.phase ≢ Paused) → WaitsOut s l (e ∷ es)
    go (inr p) = absurd (quit_not_due (next_or_first (newest_of es) w s.manager old f) e
        (newest_no_quit (newest_of es) w s.manager old f p) (subst (λ d. IsDue d e) (quit_due.1 ∙ sym table) o.1) k)
    go (inl p) =
        let r = way_back w s l g es o.0 a h p table refl in
        let row = row_of old f (sym r.row ∙ table) refl in
        record {
          later = e ∷ [];
          looks = r.looks;
          pause = r.pause;
          before = r.before;
          whole = ap (λ xs. e ∷ xs) r.whole;
          greedy = r.why.greedy;
          pauses = r.pauses;
          older = r.why.older;
          one_enemy = r.places;
          count = let x = none_left f quit_due.0 row.turns in let y = r.count in omega arith;
          all = r.all;
        }
      where
        none_left : (f : Effort) (n : ℕ) →
            ((f.left == 0 ≡ true) × (just Quit ≡ Step Quit n))
            ⊎ ((f.left == 0 ≡ false) × (just LookStatus ≡ Step Quit n)) → f.left ≡ 0
        none_left f n (inl x) = eqb-true f.left 0 x.0
        none_left f n (inr x) = absurd (let y = x.1 in cc)

-- ---- a call that ends with a Quit

quits : (w : Work) (s : Shape) (l : LocalState) (g : Lcg) (e : Event) (es : List Event) {again : Again} →
    Obeys (Doing w) s l g (e ∷ es) → AreAllowed s l es → Sound l → l.stale ≡ false → e.kind ≡ Quit →
    (state_after s l es).phase ≢ Outside →
    quit_cause (state_after s l (e ∷ es)) (effort_of s l g (e ∷ es)) ≡ again → Causes again s l (e ∷ es)
quits w s l g e es o a h was k i q =
    subst (λ a. Causes a s l (e ∷ es)) q
    (go (cases_Bool new.stale) (cases_Bool ((effort_of s l g (e ∷ es)).missed == most_missed)))
  where
    old : LocalState
    old = state_after s l es

    new : LocalState
    new = state_after s l (e ∷ es)

    f : Effort
    f = effort_of s l g (e ∷ es)

    same : new.stale ≡ old.stale
    same = quit_keeps s old e k

    effort : f ≡ effort_of s l g es
    effort = quit_effort s old (effort_of s l g es) e k

    go : (new.stale ≡ true) ⊎ (new.stale ≡ false) →
        (f.missed == most_missed ≡ true) ⊎ (f.missed == most_missed ≡ false) → Causes (quit_cause new f) s l (e ∷ es)
    go (inl y) z = rw y (subst (λ p. Has finds_stale p s l (e ∷ es)) (sym (quit_object s old e k))
        (stale_now w s l g e es o.0 a h was i (sym same ∙ y)))
    go (inr y) (inl z) = rw (y, z) (sym (missed_is s l g (e ∷ es)) ∙ eqb-true f.missed most_missed z)
    go (inr y) (inr z) =
        rw (y, z) (waited w s l g e es o a h k i (sym same ∙ y)
        (ap (λ (f : Effort). f.missed == most_missed) (sym effort) ∙ z))

-- ---- a call that ends otherwise

-- the newest event of a caller is found in a run
left_at : (s : Shape) (es : List Event) (e : Event) (c : ℕ) → e.caller ≡ c → Core s (e ∷ es) →
    (local s es c).phase ≢ Outside → (after e.kind s (local s es c) e).phase ≡ Outside → Left s (local s es c) e e.kind
left_at s es e c q core i o =
    subst (λ c. (local s es c).phase ≢ Outside → (after e.kind s (local s es c) e).phase ≡ Outside →
    Left s (local s es c) e e.kind) q (left_in s es e core) i o

-- how a call left its attempt
pub left_call : (s : Shape) (c : ℕ) (e : Event) (es before run : List Event) → Core s run →
    events_of c run ≡ (e ∷ es) ++ events_of c before → (state_after s (local s before c) es).phase ≢ Outside →
    (state_after s (local s before c) (e ∷ es)).phase ≡ Outside → Left s (state_after s (local s before c) es) e e.kind
left_call s c e es before run core own i out =
    let n = newest_own c run e (es ++ events_of c before) own in
    let core' = core_past s n.later (e ∷ n.before) (subst (Core s) n.run core) in
    subst (λ m. m.phase ≢ Outside → (after e.kind s m e).phase ≡ Outside → Left s m e e.kind)
    (after_own s c n.before before es n.rest) (left_at s n.before e c n.own core') i out

own_stays : (w : Work) (s : Shape) (l : LocalState) (g : Lcg) (es : List Event) → Obeys (Doing w) s l g es →
    AreAllowed s l es → is_some l.number ≡ true → own_attempt s (state_after s l es) ≡ own_attempt s l
own_stays w s l g es o a h = rw (number_stays s l es a h, call_begun s w l g es a o) refl

-- the newest event found the own status aborted
killed : (w : Work) (s : Shape) (c : ℕ) (g : Lcg) (e : Event) (es before run : List Event) → Core s run →
    events_of c run ≡ (e ∷ es) ++ events_of c before → Obeys (Doing w) s (local s before c) g (e ∷ es) →
    is_some (local s before c).number ≡ true → (state_after s (local s before c) es).phase ≢ Outside →
    (state_after s (local s before c) (e ∷ es)).phase ≡ Outside →
    (state_after s (local s before c) (e ∷ es)).committed ≡ false → e.kind ≢ Quit →
    Has finds_aborted (place s (StatusWord (own_attempt s (local s before c)))) s (local s before c) (e ∷ es)
killed w s c g e es before run core own o h i out un n =
    let left = left_call s c e es before run core own i out in
    let a = (allowed_own s c run before (e ∷ es) core own).0 in
    record {
      later = [];
      event = e;
      before = es;
      whole = refl;
      passes = finds left.how;
      at = left.at ∙ ap (λ n. place s (StatusWord n)) (own_stays w s (local s before c) g es o.0 a h);
    }
  where
    finds : LeftHow s (state_after s (local s before c) es) e e.kind →
        finds_aborted s (state_after s (local s before c) es) e ≡ true
    finds (by_commit c p) = absurd (cc)
    finds (by_quit q c p) = absurd (n q)
    finds (by_other q five c p) = rw (q, eq-eqb e.found 5 five) refl

cause_in : (w : Work) (s : Shape) (c : ℕ) (g : Lcg) (events before run : List Event) (again : Again) → Core s run →
    events_of c run ≡ events ++ events_of c before → Obeys (Doing w) s (local s before c) g events →
    Sound (local s before c) → IsCurrent (local s before c) →
    answer_of (Doing w) s (local s before c) g events ≡ Some again → Causes again s (local s before c) events
cause_in w s c g [] before run again core own o h now q =
    absurd (none_inside w None (local s before c) (effort_of s (local s before c) g []) again now.live q)
cause_in w s c g (e ∷ es) before run again core own o h now q = elim (cases_Bool (is_quit e.kind)) [
  | inl k ↦
      quits w s l g e es o (allowed_own s c run before (e ∷ es) core own).0 h now.agreed (quit_kind e.kind k)
      inside (rw k at why)
  | inr k ↦
      let left = has_left w (Some e) new f again q in
      let is : Killed ≡ again = rw k at why in
      subst (λ a. Causes a s (local s before c) (e ∷ es)) is
      (killed w s c g e es before run core own o (h.number (h.begun now.live)) inside left.0 left.1
      (λ z. let x = quit_is z in cc))
]
  where
    l : LocalState
    l = local s before c

    new : LocalState
    new = state_after s (local s before c) (e ∷ es)

    f : Effort
    f = effort_of s (local s before c) g (e ∷ es)

    inside : (state_after s (local s before c) es).phase ≢ Outside
    inside z = nothing_due w s (newest_of es) (state_after s l es) (effort_of s l g es) e z o.1

    why : cause (Some e) new f ≡ again
    why = some_cause w (Some e) new f again q

pub again_has_its_cause : EveryAgainHasItsCause
again_has_its_cause = λ w s c g events before run again h now q.
    cause_in w s c g events before run again h.core h.own h.call.obeys
    (sound_before s c run before events h.core h.own) now q
