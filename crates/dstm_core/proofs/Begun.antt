-- Attempts that have begun: how their count grows, and what their statuses can be.
use Rattle.std.proofs.Common.{◌%◌, ◌*◌, ◌+◌, ◌-◌, ◌/◌, ◌<◌, ◌∙◌, ◌∷◌, ◌≡◌, ◌≢◌, ◌≤◌, ◌⊎◌, List, Some, [], ap, arith, inl, inr, refl, subst, sym, ℕ}
use Rattle.std.proofs.Math.Nat.{div-add-mod}
use Rattle.dstm_core.proofs.Base.{Begin, Commit, Core, Event, Kind, LocalState, OwnerWord, Pause, Quit, Resume, Shape, StatusWord, ToValidating, after, cases_eq, cases_lt, local, nat_tests, next_attempt, place, res, word}
use Rattle.dstm_core.proofs.Basic.{Names, OwnerIs, basic, res_known}
use Rattle.dstm_core.proofs.Columns.{Begun, Changed, Same, StatusMove, Step, begins, change, kills, moves, step}
use Rattle.dstm_core.proofs.Places.{put_at}
use Rattle.dstm_core.proofs.Static.{local_other, local_own}
use Rattle.dstm_core.proofs.Statuses.{begin_may, begin_put, next_number}

-- attempts begun grow by 1 at a Begin, and stay at every other event
pub begun_how : (s : Shape) (l : LocalState) (e : Event) (k : Kind) →
    ((k ≡ Begin) × ((after k s l e).begun ≡ l.begun + 1)) ⊎ ((k ≢ Begin) × ((after k s l e).begun ≡ l.begun))
begun_how s l e Begin = inl (refl, refl)
begun_how s l e k = inr ((λ q. cc), grind (arith, nat_tests))

-- an attempt that has begun after an event had begun before it, or begins with it
pub begun_back : {s : Shape} (es : List Event) (e : Event) {a : ℕ} → Begun s (e ∷ es) a →
    Begun s es a ⊎ ((e.kind ≡ Begin) × (a ≡ e.caller * s.attempts + (local s es e.caller).begun))
begun_back {s = s} es e {a = a} u = go (cases_eq e.caller (a / s.attempts))
  where
    Goal : Type 0
    Goal = Begun s es a ⊎ ((e.kind ≡ Begin) × (a ≡ e.caller * s.attempts + (local s es e.caller).begun))

    before : e.caller ≡ a / s.attempts → a % s.attempts < (local s es e.caller).begun → Goal
    before q h = inl (record { below = u.below; begun = subst (λ n. a % s.attempts < (local s es n).begun) q h })

    at_own : e.caller ≡ a / s.attempts → a % s.attempts < (after e.kind s (local s es e.caller) e).begun →
        ((e.kind ≡ Begin) × ((after e.kind s (local s es e.caller) e).begun ≡ (local s es e.caller).begun + 1))
        ⊎ ((e.kind ≢ Begin) × ((after e.kind s (local s es e.caller) e).begun ≡ (local s es e.caller).begun)) → Goal
    at_own q h (inr x) = before q (rw x.1 at h)
    at_own q h (inl x) = elim (cases_lt (a % s.attempts) (local s es e.caller).begun) [
      | inl y ↦ before q y
      | inr y ↦
          let z = x.1 in let r : a % s.attempts ≡ (local s es e.caller).begun = omega arith in
          let d = div-add-mod a s.attempts in inr (x.0, sym d ∙ rw (r, ← q) (omega arith))
    ]

    go : (e.caller ≡ a / s.attempts) ⊎ (e.caller ≡ a / s.attempts → ⊥) → Goal
    go (inl q) = at_own q
        (rw (local_own s es e) at (subst (λ n. a % s.attempts < (local s (e ∷ es) n).begun) (sym q) u.begun))
        (begun_how s (local s es e.caller) e e.kind)
    go (inr q) = inl (record { below = u.below; begun = rw (local_other s es e (a / s.attempts) q) at u.begun })

-- ---- the code of a status

-- active, waiting, validating, committed or aborted
abbrev pub IsCode : ℕ → Type 0
IsCode code = (0 < code) × (code ≤ 5)

moved_code : {s : Shape} {l : LocalState} {e : Event} {a : ℕ} → StatusMove s l e a → IsCode e.put
moved_code (begins b) = let p = b.put in (omega arith, omega arith)
moved_code (kills k) = let p = k.put in (omega arith, omega arith)
moved_code {e = e} (moves m) = go m.how
  where
    go : ((e.kind ≡ ToValidating) × (e.put ≡ 3)) ⊎ ((e.kind ≡ Commit) × (e.put ≡ 4))
        ⊎ ((e.kind ≡ Quit) × (e.put ≡ 5)) ⊎ ((e.kind ≡ Pause) × (e.put ≡ 2))
        ⊎ ((e.kind ≡ Resume) × (e.put ≡ 1)) → IsCode e.put
    go (inl x) = let p = x.1 in (omega arith, omega arith)
    go (inr (inl x)) = let p = x.1 in (omega arith, omega arith)
    go (inr (inr (inl x))) = let p = x.1 in (omega arith, omega arith)
    go (inr (inr (inr (inl x)))) = let p = x.1 in (omega arith, omega arith)
    go (inr (inr (inr (inr x)))) = let p = x.1 in (omega arith, omega arith)

-- the status of an attempt that has begun is not idle
pub status_code : (s : Shape) (es : List Event) → Core s es → (a : ℕ) → Begun s es a → IsCode (word s es (StatusWord a))
status_code s [] core a u = let b = u.begun in absurd (omega arith)
status_code s (e ∷ es) core a u = go (λ b. status_code s es core.0 a b) (begun_back es e u)
  where
    st : Step s es e
    st = step s es e core

    old : IsCode (word s es (StatusWord a)) → Same s es e (StatusWord a) ⊎ Changed s es e (StatusWord a) →
        IsCode (word s (e ∷ es) (StatusWord a))
    old b (inl x) = rw x b
    old b (inr x) = rw x.now (moved_code x.how)

    go : (Begun s es a → IsCode (word s es (StatusWord a))) →
        Begun s es a ⊎ ((e.kind ≡ Begin) × (a ≡ e.caller * s.attempts + (local s es e.caller).begun)) →
        IsCode (word s (e ∷ es) (StatusWord a))
    go ih (inl b) = old (ih b) (change (StatusWord a) st u.below)
    go ih (inr x) =
        let l : LocalState = local s es e.caller in
        let may = begin_may s l e x.0 core.1.allowed in
        let put = begin_put s l e x.0 core.1.allowed in
        let is : next_attempt s l ≡ a = next_number s e.caller l st.own may.1 ∙ sym x.1 in
        let now : word s (e ∷ es) (StatusWord a) ≡ 1 =
        put_at es e (place s (StatusWord a)) (put.0 ∙ ap (λ n. place s (StatusWord n)) is) ∙ put.1 in
        (omega arith, omega arith)

-- ---- owners

-- the owner that a caller has found is an attempt that has begun
pub owner_begun : (s : Shape) (es : List Event) → Core s es → (c a : ℕ) → (res (local s es c)).owner ≡ Some a →
    Begun s es a
owner_begun s es core c a q = go known.0 (subst (OwnerIs s es (res (local s es c)).word) q known.1)
  where
    known : Names s es (res (local s es c)).word × OwnerIs s es (res (local s es c)).word (res (local s es c)).owner
    known = res_known s es (local s es c).resolution ((basic s es core).res c)

    go : Names s es (res (local s es c)).word →
        (0 < (res (local s es c)).word) × (a ≡ word s es (OwnerWord ((res (local s es c)).word - 1))) → Begun s es a
    go (inl n) o = absurd (let z = o.0 in omega arith)
    go (inr n) o = subst (Begun s es) (sym o.1) ((basic s es core).owner ((res (local s es c)).word - 1) n.1).begun
