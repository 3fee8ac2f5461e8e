-- An attempt uses one locator for each object that it opens for writing.
use Rattle.std.proofs.Common.{◌+◌, ◌<◌, ◌==◌, ◌∷◌, ◌++◌, ◌≡◌, ◌≢◌, ◌⊎◌, List, [], arith, inl, inr, length, length-append, refl, ℕ}
use Rattle.dstm_core.proofs.Base.{Begin, Event, Install, Kind, LocalState, Shape, Write, after, cond_both, local, nat_tests}
use Rattle.dstm_core.proofs.Begun.{begun_how}
use Rattle.dstm_core.proofs.Static.{callers, local_own}

-- the locators installed before the attempt's first
abbrev Same : LocalState → LocalState → Type 0
Same l m = m.installed + length l.writes ≡ l.installed + length m.writes

same_writes : (s : Shape) (l : LocalState) (e : Event) (k : Kind) → k ≢ Begin → Same l (after k s l e)
same_writes s l e Begin n = absurd (n refl)
same_writes s l e Install n =
    cond_both (e.found == e.expected) _ _ (Same l) (λ _. omega (arith, length-append {A = Write} l.writes)) (λ _. refl)
same_writes s l e k n = grind (arith, nat_tests)

-- in an attempt, of a caller that had begun b attempts and installed i locators before it
record Uses (b i : ℕ) (l : LocalState) : Type 0 where
  begun : b < l.begun
  used : l.begun ≡ b + 1 → l.installed ≡ i + length l.writes

at_begin : (s : Shape) (l : LocalState) (e : Event) {k : Kind} → k ≡ Begin → Uses l.begun l.installed (after k s l e)
at_begin s l e {k = Begin} q = record { begun = omega arith; used = λ _. omega arith }
at_begin s l e q = absurd (cc)

uses_step : (s : Shape) {b i : ℕ} {l : LocalState} (e : Event) → Uses b i l → Uses b i (after e.kind s l e)
uses_step s {b = b} {i = i} {l = l} e h = go (begun_how s l e e.kind)
  where
    go : ((e.kind ≡ Begin) × ((after e.kind s l e).begun ≡ l.begun + 1))
        ⊎ ((e.kind ≢ Begin) × ((after e.kind s l e).begun ≡ l.begun)) → Uses b i (after e.kind s l e)
    go (inl x) = let n = h.begun in let m = x.1 in
        record { begun = omega arith; used = λ q. absurd (omega arith) }
    go (inr x) = let n = h.begun in let m = x.1 in let w = same_writes s l e e.kind x.0 in
        record { begun = omega arith; used = λ q. let u = h.used (omega arith) in omega arith }

uses : (s : Shape) (more es : List Event) (e : Event) → e.kind ≡ Begin →
    Uses (local s es e.caller).begun (local s es e.caller).installed (local s (more ++ e ∷ es) e.caller)
uses s [] es e k = rw (local_own s es e) (at_begin s (local s es e.caller) e k)
uses s (x ∷ more) es e k =
    callers s (more ++ e ∷ es) x
    (λ c l. Uses (local s es e.caller).begun (local s es e.caller).installed (local s (more ++ e ∷ es) c) →
    Uses (local s es e.caller).begun (local s es e.caller).installed l) (uses_step s x)
    (λ c _ h. h) e.caller (uses s more es e k)

-- as long as a caller is in the attempt that a Begin began, it has installed a locator for each of its writes
pub locators_used : (s : Shape) (more es : List Event) (e : Event) → e.kind ≡ Begin →
    (local s (more ++ e ∷ es) e.caller).begun ≡ (local s es e.caller).begun + 1 →
    (local s (more ++ e ∷ es) e.caller).installed
    ≡ (local s es e.caller).installed + length (local s (more ++ e ∷ es) e.caller).writes
locators_used s more es e k = (uses s more es e k).used
