-- What a call leaves behind that has not left its attempt.
use Rattle.std.proofs.Common.{◌+◌, ◌==◌, ◌||◌, ◌∙◌, ◌∷◌, ◌≡◌, ◌≢◌, ◌≤◌, ◌⊎◌, List, Option, [], ap, arith, false, inl, inr, refl, subst, sym, true}
use Rattle.dstm_core.proofs.Base.{Event, LocalState, cases_Bool, cond_both, eqb-false, local, or_parts}
use Rattle.dstm_core.proofs.Static.{local_own}
use Rattle.dstm_order.proofs.Base.{Doing, Due, Effort, Lcg, Obeys, Outside, Quit, Shape, Work, due, due_after, effort_of, is_miss, just, misses, most_missed, newest_of, next_or_first, state_after}
use Rattle.dstm_order.proofs.Misses.{missed_is}
use Rattle.dstm_order.proofs.Validations.{due_kind}
use Rattle.dstm_progress.specs.Alone.{AreCalls, Made, all_events, generator_after}
use Rattle.dstm_progress.proofs.Calls.{fresh_begin, inside_phase, nothing_due}
use Rattle.dstm_progress.proofs.Own.{state_both}
use Rattle.dstm_progress.specs.Ends.{IsCurrent}
use Rattle.dstm_progress.specs.Calls.{AttemptsStayCurrent, EveryCallThatStays}
use Rattle.dstm_progress.proofs.OwnEvents.{after_own}
use Rattle.dstm_progress.proofs.StaleReads.{not_quit}

-- what the table says of a live attempt that is not stale, where too few exchanges have failed
pub table_says : (w : Work) (s : Shape) (n : Option Event) (l : LocalState) (f : Effort) {d : Due} →
    l.phase ≢ Outside → l.stale ≡ false → (f.missed == most_missed) ≡ false → due (Doing w) s n l f ≡ d →
    next_or_first n w s.manager l f ≡ d
table_says w s n l f i st m q = sym (same w s n l f i st m) ∙ q
  where
    same : (w : Work) (s : Shape) (n : Option Event) (l : LocalState) (f : Effort) → l.phase ≢ Outside →
        l.stale ≡ false → (f.missed == most_missed) ≡ false → due (Doing w) s n l f ≡ next_or_first n w s.manager l f
    same w s n l f i st m = rw (inside_phase l.phase i, st, m) refl

-- where something other than a Quit is due on a live attempt, it is not stale and too few exchanges have failed
pub unless_quit : (w : Work) (s : Shape) (n : Option Event) (l : LocalState) (f : Effort) {d : Due} →
    l.phase ≢ Outside → due (Doing w) s n l f ≡ d → just Quit ≢ d →
    (l.stale ≡ false) × ((f.missed == most_missed) ≡ false)
unless_quit w s n l f i q h = elim (cases_Bool (l.stale || (f.missed == most_missed))) [
  | inl x ↦ absurd (h (rw (inside_phase l.phase i, x) at q))
  | inr x ↦ or_parts l.stale (f.missed == most_missed) x
]

fewer : (s : Shape) (l : LocalState) (g : Lcg) (es : List Event) →
    ((effort_of s l g es).missed == most_missed) ≡ false → misses es ≢ most_missed
fewer s l g es h q = eqb-false (effort_of s l g es).missed most_missed h (missed_is s l g es ∙ q)

one_more : (e : Event) (es : List Event) → misses (e ∷ es) ≤ misses es + 1
one_more e es =
    cond_both (is_miss e.kind e) (misses es + 1) (misses es) (λ n. n ≤ misses es + 1) (λ _. omega arith)
    (λ _. omega arith)

not_too_many : (w : Work) (s : Shape) (l : LocalState) (g : Lcg) (es : List Event) → Obeys (Doing w) s l g es →
    (state_after s l es).phase ≢ Outside → misses es ≤ most_missed
not_too_many w s l g [] o i = omega arith
not_too_many w s l g (e ∷ es) o i =
    let old = state_after s l es in
    let f = effort_of s l g es in
    let inside : old.phase ≢ Outside = λ z. nothing_due w s (newest_of es) old f e z o.1 in
    let was = due_kind (due_after (Doing w) s l g es) e o.1 refl in
    let h = unless_quit w s (newest_of es) old f inside was.1
    (λ z. not_quit s old e e.kind i (let x : Quit ≡ e.kind = cc in sym x)) in
    let n = fewer s l g es h.1 in
    let ih = not_too_many w s l g es o.0 inside in
    let x = one_more e es in omega arith

pub call_stays : EveryCallThatStays
call_stays = λ w s l g es h i.
    let two = unless_quit w s (newest_of es) (state_after s l es) (effort_of s l g es) i h.done (λ z. cc) in
    let n = fewer s l g es two.1 in
    let most = not_too_many w s l g es h.obeys i in
    (record { live = i; agreed = two.0 }, omega arith)

-- so it is after calls made one after the other
calls_stay : (s : Shape) (l : LocalState) (g : Lcg) (calls : List Made) → AreCalls s l g calls → l.stale ≡ false →
    (state_after s l (all_events calls)).phase ≢ Outside → IsCurrent (state_after s l (all_events calls))
calls_stay s l g [] h was i = record { live = i; agreed = was }
calls_stay s l g (call ∷ calls) h was i =
    let same = state_both s l call.events (all_events calls) in
    subst IsCurrent (sym same)
    (call_stays call.work s (state_after s l (all_events calls)) (generator_after s l g calls) call.events h.1
    (subst (λ (l : LocalState). l.phase ≢ Outside) same i)).0

pub attempts_stay : AttemptsStayCurrent
attempts_stay = λ s g calls begin before run k own h i.
    let c = begin.caller in
    let first = local s (begin ∷ before) c in
    let now = after_own s c run (begin ∷ before) (all_events calls) own in
    let fresh = fresh_begin s (local s before c) begin k in
    subst IsCurrent (sym now)
    (calls_stay s first g calls h (ap (λ (l : LocalState). l.stale) (local_own s before begin) ∙ fresh.agreed)
    (subst (λ (l : LocalState). l.phase ≢ Outside) now i))
