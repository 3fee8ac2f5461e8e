-- How far the counting words rise, and that no add on them wraps.
use Rattle.std.proofs.Common.{List, None, Option, Some, [], ap, arith, inl, inr, subst, sym, true, ℕ, ◌*◌, ◌+◌, ◌-◌, ◌<◌, ◌^◌, ◌∷◌, ◌≡◌, ◌≤◌, ◌⊎◌}
use Rattle.std.proofs.lemmas.Nat.{mul-le}
use Rattle.dstm_machines.proofs.Runs as runs
use Rattle.dstm_machines.proofs.Totals.{total, total-≤, total-<, total-bound}
use Rattle.dstm_tl2.proofs.Base.{AllowedAs, Draw, Enrol, Event, Fits, Kind, LocalState, Run, Sample, Table, after, is_draw, local, nat_tests, tl2}
use Rattle.dstm_tl2.proofs.Clock.{Draws, NoDraw, clock, clock_step}
use Rattle.dstm_tl2.proofs.Places.{first_clock}

-- the attempts of a caller that can draw no number any more
abbrev spent_by : Option ℕ → ℕ → ℕ
spent_by None begun = begun - 1
spent_by (Some n) begun = begun

abbrev spent : LocalState → ℕ
spent l = spent_by l.drawn l.begun

spent_le : (d : Option ℕ) (b : ℕ) → spent_by d b ≤ b
spent_le None b = omega arith
spent_le (Some n) b = omega arith

spent_step : (t : Table) (l : LocalState) (e : Event) (k : Kind) → AllowedAs k t l e → spent l ≤ spent (after k t l e)
spent_step t l e Sample a = let x = spent_le l.drawn l.begun in omega arith
spent_step t l e (Draw w) a = spent_le l.drawn l.begun
spent_step t l e k a = grind (arith, nat_tests)

draw_spends : (t : Table) (l : LocalState) (e : Event) (k : Kind) → is_draw k ≡ true → AllowedAs k t l e →
    spent l < spent (after k t l e)
draw_spends t l e (Draw w) d a =
    let x : spent l ≡ l.begun - 1 = ap (λ o. spent_by o l.begun) a.2.2 in let y = a.2.0 in omega arith
draw_spends t l e k d a = absurd (cc)

begun_le : (t : Table) (es : List Event) → Run t es → (c : ℕ) → (local t es c).begun ≤ t.attempts
begun_le t [] run c = omega arith
begun_le t (e ∷ es) run c =
    runs.callers tl2 t es e (λ c l. l.begun ≤ t.attempts)
    (step (local t es e.caller) e.kind run.1.allowed (begun_le t es run.0 e.caller))
    (λ c _. begun_le t es run.0 c) c
  where
    step : (l : LocalState) (k : Kind) → AllowedAs k t l e → l.begun ≤ t.attempts → (after k t l e).begun ≤ t.attempts
    step l Sample a h = let x = a.2.1 in omega arith
    step l k a h = grind (arith, nat_tests)

clock_le : (t : Table) (es : List Event) → Run t es → clock t es ≤ total t.callers (λ c. spent (local t es c))
clock_le t [] run = let z : clock t [] ≡ 0 = first_clock t in omega arith
clock_le t (e ∷ es) run = go (clock_le t es run.0) (clock_step t es e run.1)
  where
    grows : (c : ℕ) → spent (local t es c) ≤ spent (local t (e ∷ es) c)
    grows c = runs.callers tl2 t es e (λ c l. spent (local t es c) ≤ spent l)
        (spent_step t (local t es e.caller) e e.kind run.1.allowed) (λ c _. omega arith) c

    go : clock t es ≤ total t.callers (λ c. spent (local t es c)) → Draws t es e e.kind ⊎ NoDraw t es e e.kind →
        clock t (e ∷ es) ≤ total t.callers (λ c. spent (local t (e ∷ es) c))
    go ih (inr x) =
        let s = x.stays in
        let m = total-≤ t.callers (λ c. spent (local t es c)) (λ c. spent (local t (e ∷ es) c)) grows in
        omega arith
    go ih (inl x) =
        let r = x.rises in
        let here : spent (local t es e.caller) < spent (local t (e ∷ es) e.caller) =
        subst (λ l. spent (local t es e.caller) < spent l) (sym (runs.local_own tl2 t es e))
        (draw_spends t (local t es e.caller) e e.kind x.kind run.1.allowed) in
        let m = total-< t.callers (λ c. spent (local t es c)) (λ c. spent (local t (e ∷ es) c)) e.caller grows
        run.1.caller here in
        omega arith

-- the clock is at most the number of attempts that there may be
pub clock_bound : (t : Table) (es : List Event) → Run t es → clock t es ≤ t.callers * t.attempts
clock_bound t es run =
    let a = clock_le t es run in
    let b = total-bound t.callers t.attempts (λ c. spent (local t es c))
    (λ c. let x = spent_le (local t es c).drawn (local t es c).begun in let y = begun_le t es run c in omega arith) in
    omega arith

-- no Enrol and no Draw wraps
pub add_fits : (t : Table) (es : List Event) (e : Event) → t.callers ≤ 64 → t.attempts ≤ 18014398509481984 → Run t es →
    Fits t es e → (e.kind ≡ Enrol) ⊎ (is_draw e.kind ≡ true) → e.found + 1 < 2 ^ 64
add_fits t es e c a run fits (inl k) = let f = fits.enrolled k in let l = fits.caller in omega arith
add_fits t es e c a run fits (inr k) = elim (clock_step t es e fits) [
  | inr x ↦ absurd (let y = x.kind in cc)
  | inl x ↦
      let f = x.found in let b = clock_bound t es run in
      let m : t.callers * t.attempts ≤ 64 * 18014398509481984 = mul-le _ _ _ _ c a in omega arith
]
