-- What stands of an attempt that has ended.
use Rattle.std.proofs.Common.{◌*◌, ◌+◌, ◌-◌, ◌<◌, ◌∙◌, ◌∷◌, ◌≡◌, ◌≢◌, ◌≤◌, ◌⊎◌, Bool, List, None, Some, [], ap, arith, false, inl, inr, is_some, subst, sym, true, ℕ, nat_lt, not}
use Rattle.dstm_core.proofs.Base.{Core, Event, LocalState, StatusWord, after, at, cases_eq, local, ltb-false, ltb-true, not-true, or_cases, or_zero, own_attempt, word}
use Rattle.dstm_order.proofs.Base.{Begin, Kind, Outside, Shape}
use Rattle.dstm_core.proofs.Begun.{begun_how}
use Rattle.dstm_core.proofs.Columns.{in_table}
use Rattle.dstm_core.proofs.Pasts.{core_past}
use Rattle.dstm_core.proofs.Places.{put_at}
use Rattle.dstm_core.proofs.Static.{local_other, local_own, static}
use Rattle.dstm_core.proofs.Statuses.{finished_stays, finished_step, own_status}
use Rattle.dstm_core.proofs.Underway.{is_outside_now}
use Rattle.dstm_progress.specs.Ends.{ended_as}
use Rattle.dstm_progress.specs.Calls.{CallersAreInRange, EveryEndStays, TheSpentAreUsedUp}
use Rattle.dstm_progress.proofs.Leaves.{Left, LeftHow, left_how}
use Rattle.dstm_progress.proofs.Leaves.LeftHow.{by_commit, by_other, by_quit}
use Rattle.dstm_progress.proofs.Outside.{outside_keeps}
use Rattle.dstm_progress.proofs.Sound.{sound}

-- ---- who has made a step is a caller of the table

pub below : (s : Shape) (es : List Event) → Core s es → (c : ℕ) → is_some (local s es c).number ≡ true → c < s.callers
below s [] core c h = absurd (cc)
below s (e ∷ es) core c h = elim (cases_eq e.caller c) [
  | inl q ↦ subst (λ c. c < s.callers) q core.1.caller
  | inr n ↦ below s es core.0 c (subst (λ (l : LocalState). is_some l.number ≡ true) (local_other s es e c n) h)
]

pub named : (s : Shape) (es : List Event) → Core s es → (c : ℕ) → is_some (local s es c).number ≡ true →
    (local s es c).number ≡ Some c
named s es core c h = go (static s es core c).number
  where
    go : ((local s es c).number ≡ None) ⊎ ((local s es c).number ≡ Some c) → (local s es c).number ≡ Some c
    go (inl x) = absurd (let y = ap is_some x in cc)
    go (inr x) = x

pub callers_in_range : CallersAreInRange
callers_in_range = λ s run c core.
    ((static s run core c).begun, λ h. (below s run core c h, named s run core c h))

pub spent_used_up : TheSpentAreUsedUp
spent_used_up = λ s run c core h.
    used_up s (local s run c) (static s run core c).begun (or_cases (not (nat_lt (local s run c).begun s.attempts))
    (nat_lt s.locators ((local s run c).installed + s.objects)) h)
  where
    used_up : (s : Shape) (l : LocalState) → l.begun ≤ s.attempts → (not (nat_lt l.begun s.attempts) ≡ true)
        ⊎ (nat_lt s.locators (l.installed + s.objects) ≡ true) →
        (l.begun ≡ s.attempts) ⊎ (s.locators < l.installed + s.objects)
    used_up s l most (inr q) = inr (ltb-true s.locators (l.installed + s.objects) q)
    used_up s l most (inl q) = inl
        (let x = ltb-false l.begun s.attempts (not-true (nat_lt l.begun s.attempts) q) in omega arith)

-- an attempt that has begun has its status in the table
pub own_below : (s : Shape) (es : List Event) → Core s es → (c : ℕ) → 0 < (local s es c).begun →
    own_attempt s (local s es c) < s.callers * s.attempts
own_below s es core c b =
    let h = (sound s es core c).number b in
    let num : or_zero (local s es c).number ≡ c = ap or_zero (named s es core c h) in
    let x = (static s es core c).begun in
    rw num (in_table c s.attempts ((local s es c).begun - 1) s.callers (below s es core c h) (omega arith))

-- ---- the status of the last attempt, once it has ended

ended_finished : (b : Bool) → 4 ≤ ended_as b
ended_finished true = omega arith
ended_finished false = omega arith

-- how an attempt was left tells its status
left_word : {s : Shape} {l : LocalState} {e : Event} {k : Kind} → LeftHow s l e k →
    e.put ≡ ended_as (after k s l e).committed
left_word (by_commit c p) = rw c p
left_word (by_quit q c p) = rw c p
left_word (by_other q f c p) = rw c p

-- an event that is no Begin begins no attempt, as none does after which no attempt is under way
pub no_begin : (s : Shape) (l : LocalState) (e : Event) (k : Kind) → k ≢ Begin → (after k s l e).begun ≡ l.begun
no_begin s l e k n = elim (begun_how s l e k) [ inl x ↦ absurd (n x.0) | inr x ↦ x.1 ]

not_begun : (s : Shape) (l : LocalState) (e : Event) (k : Kind) → (after k s l e).phase ≡ Outside → k ≢ Begin
not_begun s l e Begin o q = cc
not_begun s l e k o q = absurd (cc)

-- how the own attempt was left
pub left_in : (s : Shape) (es : List Event) (e : Event) → Core s (e ∷ es) → (local s es e.caller).phase ≢ Outside →
    (after e.kind s (local s es e.caller) e).phase ≡ Outside → Left s (local s es e.caller) e e.kind
left_in s es e core i o =
    left_how s (local s es e.caller) e e.kind core.1.allowed i ((sound s es core.0 e.caller).goes i) o
    (λ p. rw (core.1.linked ∙ ap (at es) p) (own_status s es core.0 e.caller core.1.caller i))

abbrev Ended : Shape → List Event → LocalState → Type 0
Ended s es l = word s es (StatusWord (own_attempt s l)) ≡ ended_as l.committed

ended_own : (s : Shape) (es : List Event) (e : Event) → Core s (e ∷ es) →
    ((local s es e.caller).phase ≡ Outside → 0 < (local s es e.caller).begun → Ended s es (local s es e.caller)) →
    (after e.kind s (local s es e.caller) e).phase ≡ Outside →
    0 < (after e.kind s (local s es e.caller) e).begun → Ended s (e ∷ es) (after e.kind s (local s es e.caller) e)
ended_own s es e core ih o b = elim (is_outside_now (local s es e.caller).phase) [
  | inr i ↦
      let h = left_in s es e core i o in
      ap (λ a. word s (e ∷ es) (StatusWord a)) h.same ∙ put_at es e _ h.at
      ∙ left_word h.how
  | inl p ↦
      let keeps = outside_keeps s (local s es e.caller) e e.kind core.1.allowed
      ((sound s es core.0 e.caller).number old) p o in
      let was = ih p old in
      ap (λ a. word s (e ∷ es) (StatusWord a)) keeps.0
      ∙ finished_step s es e (own_attempt s (local s es e.caller)) core (own_below s es core.0 e.caller old)
      (rw was (ended_finished (local s es e.caller).committed))
      ∙ was ∙ ap ended_as (sym keeps.1)
]
  where
    old : 0 < (local s es e.caller).begun
    old = let x = no_begin s (local s es e.caller) e e.kind
        (not_begun s (local s es e.caller) e e.kind o) in omega arith

pub ended : (s : Shape) (es : List Event) → Core s es → (c : ℕ) → (local s es c).phase ≡ Outside →
    0 < (local s es c).begun → Ended s es (local s es c)
ended s [] core c o b = absurd (omega arith)
ended s (e ∷ es) core c o b = elim (cases_eq e.caller c) [
  | inl q ↦
      subst (λ c. (local s (e ∷ es) c).phase ≡ Outside → 0 < (local s (e ∷ es) c).begun →
      Ended s (e ∷ es) (local s (e ∷ es) c)) q (own (ended s es core.0 e.caller)) o b
  | inr n ↦ other (ended s es core.0 c) n o b
]
  where
    Before : ℕ → Type 0
    Before d = (local s es d).phase ≡ Outside → 0 < (local s es d).begun → Ended s es (local s es d)

    own : Before e.caller → (local s (e ∷ es) e.caller).phase ≡ Outside →
        0 < (local s (e ∷ es) e.caller).begun → Ended s (e ∷ es) (local s (e ∷ es) e.caller)
    own ih o b =
        let now = local_own s es e in
        subst (Ended s (e ∷ es)) (sym now) (ended_own s es e core ih
        (subst (λ (l : LocalState). l.phase ≡ Outside) now o) (subst (λ (l : LocalState). 0 < l.begun) now b))

    other : Before c → e.caller ≢ c → (local s (e ∷ es) c).phase ≡ Outside → 0 < (local s (e ∷ es) c).begun →
        Ended s (e ∷ es) (local s (e ∷ es) c)
    other ih n o b =
        let now = local_other s es e c n in
        let b' : 0 < (local s es c).begun = subst (λ (l : LocalState). 0 < l.begun) now b in
        let was = ih (subst (λ (l : LocalState). l.phase ≡ Outside) now o) b' in
        subst (Ended s (e ∷ es)) (sym now)
        (finished_step s es e (own_attempt s (local s es c)) core (own_below s es core.0 c b')
        (rw was (ended_finished (local s es c).committed)) ∙ was)

pub end_stays : EveryEndStays
end_stays = λ s run c o b later core.
    let past = core_past s later run core in
    let was = ended s run past c o (omega arith) in
    finished_stays s later run (own_attempt s (local s run c)) core (own_below s run past c (omega arith))
    (rw was (ended_finished (local s run c).committed)) ∙ was
