-- A call that answers why its attempt was left has disturbed it.
use Rattle.std.proofs.Common.{◌≡◌, ◌+◌, ◌*◌, ◌%◌, ◌<◌, ◌≤◌, ◌⊎◌, ◌∷◌, ◌++◌, ◌∙◌, ℕ, inl, inr, List, [], refl, ap, append_assoc, arith, sym, subst, true, false, Bool, Some, lt-ltb, ◌&&◌, not}
use Rattle.std.specs.Prelude.{nat_le, nat_lt}
use Rattle.dstm_tl2.proofs.Base.{Event, LocalState, Table, and_from, cases_Bool, cases_eq, eq-eqb, eqb-false, events_of, fails, is_locked, is_readable, leb-false, local, ne_eqb, tl2}
use Rattle.dstm_tl2.specs.declared.kind.Kind.{Kind}
use Rattle.dstm_tl2.specs.declared.kind.Kind.TheVariants.{Check, Lock, LookAgain, LookLock}
use Rattle.dstm_machines.proofs.Own.{after_own}
use Rattle.dstm_tl2_order.specs.Calls.{answer_of, state_after}
use Rattle.dstm_tl2_order.specs.declared.again.TlAgain.{TlAgain}
use Rattle.dstm_tl2_order.specs.Ended.{Disturbed, finds_changed, finds_locked, finds_newer, is_first_or_lock, is_later_look, is_look_lock}
use Rattle.dstm_tl2_order.specs.Ended.Disturbed.{found_locked, found_newer, found_changed}
use Rattle.dstm_tl2_order.proofs.Steps.{begun_up, state_up}
use Rattle.dstm_tl2_order.proofs.Causing.{ended_by}
use Rattle.dstm_tl2_order.proofs.Ones.{one_there}

-- ---- what an event that ends its attempt has found

unreadable : (sample word : ℕ) → not (is_readable sample word) ≡ true → is_locked word ≡ false →
    nat_lt (2 * sample + 1) word ≡ true
unreadable sample word h free =
    let odd = eqb-false (word % 2) 1 free in
    let above : nat_le word (2 * sample) ≡ false =
    denied (nat_le word (2 * sample)) (ap (λ b. not (not b && nat_le word (2 * sample))) (sym free) ∙ h) in
    lt-ltb (2 * sample + 1) word (omega (arith, over word (2 * sample) above, odd))
  where
    denied : (b : Bool) → not b ≡ true → b ≡ false
    denied true q = absurd (cc)
    denied false q = refl

    over : (a b : ℕ) → nat_le a b ≡ false → b < a
    over a b h = leb-false a b h

ends_by : (l : LocalState) (e : Event) {k : Kind} → e.kind ≡ k → fails k l e ≡ true →
    (finds_locked l e ≡ true) ⊎ ((finds_newer l e ≡ true) ⊎ (finds_changed l e ≡ true))
ends_by l e {k = LookLock} is f = elim (cases_Bool (is_locked e.found)) [
  | inl q ↦ inl (and_from (is_first_or_lock e.kind) (is_locked e.found) (ap is_first_or_lock is) q)
  | inr q ↦
      inr (inl (and_from (is_look_lock e.kind) (nat_lt (2 * l.sample + 1) e.found) (ap is_look_lock is)
      (unreadable l.sample e.found f q)))
]
ends_by l e {k = LookAgain} is f =
    inr (inr (and_from (is_later_look e.kind) (fails e.kind l e) (ap is_later_look is) (ap (λ k. fails k l e) is ∙ f)))
ends_by l e {k = (Lock w)} is f =
    inr (inr (and_from (is_later_look e.kind) (fails e.kind l e) (ap is_later_look is) (ap (λ k. fails k l e) is ∙ f)))
ends_by l e {k = Check} is f =
    inr (inr (and_from (is_later_look e.kind) (fails e.kind l e) (ap is_later_look is) (ap (λ k. fails k l e) is ∙ f)))
ends_by l e is f = absurd (cc)

-- ---- where it stands

-- where one of a caller's events stands in the log
pub record StandsAt (c : ℕ) (log : List Event) (event : Event) (older : List Event) : Type 0 where
  pub own : event.caller ≡ c
  pub later : List Event
  pub before : List Event
  pub whole : log ≡ later ++ event ∷ before
  pub rest : events_of c before ≡ older

-- and it does after one more event
stands_later : {c : ℕ} {log rest : List Event} {event : Event} (f : Event) → StandsAt c log event rest →
    StandsAt c (f ∷ log) event rest
stands_later f s = record {
  own = s.own;
  later = f ∷ s.later;
  before = s.before;
  whole = ap (λ (xs : List Event). f ∷ xs) s.whole;
  rest = s.rest;
}

pub own_stands : (c : ℕ) (log newer : List Event) (event : Event) (rest : List Event) →
    events_of c log ≡ newer ++ event ∷ rest → StandsAt c log event rest
own_stands c [] [] event rest h = absurd (cc)
own_stands c [] (e ∷ newer) event rest h = absurd (cc)
own_stands c (f ∷ log) [] event rest h = elim (cases_eq f.caller c) [
  | inl q ↦
      let both : f ∷ events_of c log ≡ event ∷ rest = rw (eq-eqb f.caller c q) at h in
      let same : f ≡ event = cc in
      let others : events_of c log ≡ rest = cc in
      record {
        own = ap (λ (e : Event). e.caller) (sym same) ∙ q;
        later = [];
        before = log;
        whole = ap (λ (e : Event). e ∷ log) same;
        rest = others;
      }
  | inr n ↦ stands_later f (own_stands c log [] event rest (rw (ne_eqb f.caller c n) at h))
]
own_stands c (f ∷ log) (e ∷ newer) event rest h =
    by (cases_eq f.caller c) (own_stands c log (e ∷ newer) event rest) (own_stands c log newer event rest)
  where
    by : (f.caller ≡ c) ⊎ (f.caller ≡ c → ⊥) →
        (events_of c log ≡ e ∷ (newer ++ event ∷ rest) → StandsAt c log event rest) →
        (events_of c log ≡ newer ++ event ∷ rest → StandsAt c log event rest) → StandsAt c (f ∷ log) event rest
    by (inl q) later ih =
        let both : f ∷ events_of c log ≡ e ∷ (newer ++ event ∷ rest) = rw (eq-eqb f.caller c q) at h in
        let others : events_of c log ≡ newer ++ event ∷ rest = cc in stands_later f (ih others)
    by (inr n) later ih = stands_later f (later (rw (ne_eqb f.caller c n) at h))

-- A CALL THAT ANSWERS WHY ITS ATTEMPT WAS LEFT HAS DISTURBED IT.
pub answers_disturb : (t : Table) (c : ℕ) (log before es : List Event) (again : TlAgain) →
    events_of c log ≡ es ++ events_of c before → (local t log c).begun ≡ (local t before c).begun →
    answer_of t (local t before c) es ≡ Some again → Disturbed t log c (local t log c).begun
answers_disturb t c log before es again own attempt gives =
    let ended = ended_by t (local t before c) es again gives in
    let s = own_stands c log ended.later ended.event (ended.before ++ events_of c before)
    (own ∙ ap (λ xs. xs ++ events_of c before) ended.in_call
    ∙ append_assoc ended.later (ended.event ∷ ended.before) (events_of c before)) in
    let state : local t s.before c ≡ state_after t (local t before c) ended.before =
    after_own tl2 t c s.before before ended.before s.rest in
    let low = state_up t (local t before c) ended.before in
    let high : (local t s.before c).begun ≤ (local t log c).begun =
    subst (λ (xs : List Event). (local t s.before c).begun ≤ (local t xs c).begun) (sym s.whole)
    (begun_at s.later ended.event s.before) in
    let here : (local t s.before c).begun ≡ (local t log c).begun =
    omega (arith, low, high, attempt, ap (λ (l : LocalState). l.begun) state) in
    by s.later ended.event s.before s.whole s.own here (ends_by (local t s.before c) ended.event refl
    (ap (λ (l : LocalState). fails ended.event.kind l ended.event) state ∙ ended.fails))
  where
    begun_at : (later : List Event) (e : Event) (es : List Event) →
        (local t es c).begun ≤ (local t (later ++ e ∷ es) c).begun
    begun_at later e es =
        let one = begun_up t c (e ∷ []) es in let more = begun_up t c later (e ∷ es) in omega arith

    by : (later : List Event) (e : Event) (es : List Event) → log ≡ later ++ e ∷ es → e.caller ≡ c →
        (local t es c).begun ≡ (local t log c).begun → (finds_locked (local t es c) e ≡ true)
        ⊎ ((finds_newer (local t es c) e ≡ true) ⊎ (finds_changed (local t es c) e ≡ true)) →
        Disturbed t log c (local t log c).begun
    by later e es whole own here (inl q) =
        found_locked (one_there finds_locked t later e es c (local t log c).begun whole own here q)
    by later e es whole own here (inr (inl q)) =
        found_newer (one_there finds_newer t later e es c (local t log c).begun whole own here q)
    by later e es whole own here (inr (inr q)) =
        found_changed (one_there finds_changed t later e es c (local t log c).begun whole own here q)
