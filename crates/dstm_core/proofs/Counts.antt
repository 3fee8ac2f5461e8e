-- How far the counting words rise, and that no add on them wraps.
use Rattle.std.proofs.Common.{◌≡◌, ◌≢◌, ◌+◌, ◌-◌, ◌*◌, ◌^◌, ◌<◌, ◌≤◌, ◌==◌, ◌⊎◌, ◌∷◌, ◌∙◌, ℕ, inl, inr, List, [], refl, ap, arith, sym, Bool, true, false}
use Rattle.dstm_core.proofs.Base.{AllowedAs, Begin, CallersWord, Commit, Core, Draw, Drawn, Enrol, Event, Fits, Install, IsValid, Kind, LocalState, LookSelf, MAX_ATTEMPTS, MAX_CALLERS, NumbersWord, Outside, Pause, Phase, PutHigh, PutNew, Quit, Resume, Shape, Stamp, StampsWord, ToValidating, Word, access, after, at, cond_both, given, local, nat_tests, place, word}
use Rattle.dstm_machines.specs.Traces.Access.{Add}
use Rattle.std.proofs.lemmas.Nat.{mul-le}
use Rattle.dstm_core.proofs.Static.{Static, static, running, callers, local_own}
use Rattle.dstm_core.proofs.Columns.{step, Same, enrolled, numbers, stamps}
use Rattle.dstm_machines.proofs.Totals.{total, total-≤, total-<, total-bound}

-- the attempts of a caller that can draw no number any more
abbrev pub spent_by : Phase → ℕ → ℕ
spent_by Outside begun = begun
spent_by Drawn begun = begun
spent_by phase begun = begun - 1

abbrev pub spent : LocalState → ℕ
spent l = spent_by l.phase l.begun

spent_le : (p : Phase) (b : ℕ) → spent_by p b ≤ b
spent_le Outside b = omega arith
spent_le Drawn b = omega arith
spent_le p b = omega arith

spent_before : (p : Phase) (b : ℕ) → p ≢ Outside → p ≢ Drawn → spent_by p b ≡ b - 1
spent_before Outside b o d = absurd (o refl)
spent_before Drawn b o d = absurd (d refl)
spent_before p b o d = refl

spent_step : (s : Shape) (c : ℕ) (l : LocalState) (e : Event) (k : Kind) → Static s c l → AllowedAs k s l e →
    spent l ≤ spent (after k s l e)
spent_step s c l e Begin t a = let x = spent_le l.phase l.begun in omega arith
spent_step s c l e Install t a =
    cond_both (e.found == e.expected) _ _ (λ (m : LocalState). spent l ≤ spent m) (λ _. omega arith) (λ _. omega arith)
spent_step s c l e LookSelf t a =
    cond_both (e.found == given l.phase) _ _ (λ (m : LocalState). spent l ≤ spent m) (λ _. omega arith)
    (λ _. spent_le l.phase l.begun)
spent_step s c l e PutHigh t a =
    let x = spent_before l.phase l.begun (λ z. let i = a.2.0 in grind arith)
    (λ z. let i = a.2.0 in grind arith) in omega arith
spent_step s c l e PutNew t a =
    let x = spent_before l.phase l.begun (λ z. let i = a.2.0 in cc) (λ z. let i = a.2.0 in cc) in omega arith
spent_step s c l e ToValidating t a = cond_both (e.found == 1) _ _ (λ (m : LocalState). spent l ≤ spent m)
    (λ _. let x = spent_before l.phase l.begun (λ z. let i = a.2.0 in grind arith)
    (λ z. let i = a.2.0 in grind arith) in omega arith) (λ _. spent_le l.phase l.begun)
spent_step s c l e Draw t a = spent_le l.phase l.begun
spent_step s c l e Commit t a = spent_le l.phase l.begun
spent_step s c l e Quit t a = spent_le l.phase l.begun
spent_step s c l e Pause t a = cond_both (e.found == 1) _ _ (λ (m : LocalState). spent l ≤ spent m)
    (λ _. let x = spent_before l.phase l.begun (λ z. let i = a.2.0 in cc) (λ z. let i = a.2.0 in cc) in
    omega arith) (λ _. spent_le l.phase l.begun)
spent_step s c l e Resume t a = cond_both (e.found == 2) _ _ (λ (m : LocalState). spent l ≤ spent m)
    (λ _. let x = spent_before l.phase l.begun (λ z. let i = a.2.0 in cc) (λ z. let i = a.2.0 in cc) in
    omega arith) (λ _. spent_le l.phase l.begun)
spent_step s c l e k t a = omega arith

spent_draw : (s : Shape) (c : ℕ) (l : LocalState) (e : Event) {k : Kind} → k ≡ Draw → Static s c l →
    AllowedAs k s l e → spent l < spent (after k s l e)
spent_draw s c l e {k = Draw} q t a =
    let x = spent_before l.phase l.begun (λ z. let i = a.2.0 in cc) (λ z. let i = a.2.0 in cc) in
    let y = (running s c l t (λ z. let i = a.2.0 in cc)).1 in omega arith
spent_draw s c l e q t a = absurd (cc)

-- the stamps that a caller can have drawn
abbrev pub stamped_by : Bool → ℕ → ℕ
stamped_by true begun = begun + 1
stamped_by false begun = begun

abbrev pub stamped : LocalState → ℕ
stamped l = stamped_by l.stamped l.begun

stamped_le : (b : Bool) (n : ℕ) → (n ≤ stamped_by b n) × (stamped_by b n ≤ n + 1)
stamped_le true n = (omega arith, omega arith)
stamped_le false n = (omega arith, omega arith)

stamped_step : (s : Shape) (l : LocalState) (e : Event) (k : Kind) → stamped l ≤ stamped (after k s l e)
stamped_step s l e Stamp = (stamped_le l.stamped l.begun).1
stamped_step s l e Begin = (stamped_le l.stamped l.begun).1
stamped_step s l e k = grind (arith, nat_tests)

stamped_stamp : (s : Shape) (l : LocalState) (e : Event) {k : Kind} → k ≡ Stamp → AllowedAs k s l e →
    stamped l < stamped (after k s l e)
stamped_stamp s l e {k = Stamp} q a = let x : stamped l ≡ l.begun = ap (λ b. stamped_by b l.begun) a.2.3 in
    omega arith
stamped_stamp s l e q a = absurd (cc)

-- a count of each caller's state that never falls, summed over the callers, never falls
abbrev pub sum_of : Shape → (LocalState → ℕ) → List Event → ℕ
sum_of s f es = total s.callers (λ c. f (local s es c))

grows : (s : Shape) (es : List Event) (e : Event) (f : LocalState → ℕ) →
    f (local s es e.caller) ≤ f (after e.kind s (local s es e.caller) e) →
    (c : ℕ) → f (local s es c) ≤ f (local s (e ∷ es) c)
grows s es e f h c = callers s es e (λ c l. f (local s es c) ≤ f l) h (λ c _. omega arith) c

-- a word that rises by 1 only where such a count does is at most their sum
counted : (s : Shape) (es : List Event) (e : Event) (f : LocalState → ℕ) (n m : ℕ) → e.caller < s.callers →
    f (local s es e.caller) ≤ f (after e.kind s (local s es e.caller) e) → n ≤ sum_of s f es →
    (m ≡ n) ⊎ ((m ≡ n + 1) × (f (local s es e.caller) < f (after e.kind s (local s es e.caller) e))) →
    m ≤ sum_of s f (e ∷ es)
counted s es e f n m b h ih (inl q) =
    let up = total-≤ s.callers (λ c. f (local s es c)) (λ c. f (local s (e ∷ es) c)) (grows s es e f h) in
    omega arith
counted s es e f n m b h ih (inr q) =
    let less : f (local s es e.caller) < f (local s (e ∷ es) e.caller) = rw (local_own s es e) q.1 in
    let up = total-< s.callers (λ c. f (local s es c)) (λ c. f (local s (e ∷ es) c)) e.caller
    (grows s es e f h) b less in
    omega arith

-- as many numbers are drawn as attempts can draw none any more, at most
numbers_spent : (s : Shape) (es : List Event) → Core s es → word s es NumbersWord ≤ sum_of s spent es
numbers_spent s [] core = omega arith
numbers_spent s (e ∷ es) core =
    counted s es e spent (word s es NumbersWord) (word s (e ∷ es) NumbersWord) core.1.caller
    (spent_step s e.caller l e e.kind t core.1.allowed) (numbers_spent s es core.0) (go (numbers (step s es e core)))
  where
    l : LocalState
    l = local s es e.caller

    t : Static s e.caller (local s es e.caller)
    t = static s es core.0 e.caller

    go : Same s es e NumbersWord
        ⊎ ((e.kind ≡ Draw) × (word s (e ∷ es) NumbersWord ≡ word s es NumbersWord + 1)) →
        Same s es e NumbersWord ⊎ ((word s (e ∷ es) NumbersWord ≡ word s es NumbersWord + 1)
        × (spent (local s es e.caller) < spent (after e.kind s (local s es e.caller) e)))
    go (inl x) = inl x
    go (inr x) = inr (x.1, spent_draw s e.caller (local s es e.caller) e x.0 t core.1.allowed)

stamps_spent : (s : Shape) (es : List Event) → Core s es → word s es StampsWord ≤ sum_of s stamped es
stamps_spent s [] core = omega arith
stamps_spent s (e ∷ es) core =
    counted s es e stamped (word s es StampsWord) (word s (e ∷ es) StampsWord) core.1.caller
    (stamped_step s (local s es e.caller) e e.kind) (stamps_spent s es core.0) (go (stamps (step s es e core)))
  where
    go : Same s es e StampsWord ⊎ ((e.kind ≡ Stamp) × (word s (e ∷ es) StampsWord ≡ word s es StampsWord + 1)) →
        Same s es e StampsWord ⊎ ((word s (e ∷ es) StampsWord ≡ word s es StampsWord + 1)
        × (stamped (local s es e.caller) < stamped (after e.kind s (local s es e.caller) e)))
    go (inl x) = inl x
    go (inr x) = inr (x.1, stamped_stamp s (local s es e.caller) e x.0 core.1.allowed)

-- no more numbers are drawn than there are attempts
pub numbers_few : (s : Shape) (es : List Event) → Core s es → word s es NumbersWord ≤ s.callers * s.attempts
numbers_few s es core =
    let few = total-bound s.callers s.attempts (λ c. spent (local s es c)) bound in
    let spent = numbers_spent s es core in omega arith
  where
    bound : (c : ℕ) → spent (local s es c) ≤ s.attempts
    bound c = let x = spent_le (local s es c).phase (local s es c).begun in
        let y = (static s es core c).begun in omega arith

-- nor more stamps than there are attempts, and one a caller
pub stamps_few : (s : Shape) (es : List Event) → Core s es → word s es StampsWord ≤ s.callers * (s.attempts + 1)
stamps_few s es core =
    let few = total-bound s.callers (s.attempts + 1) (λ c. stamped (local s es c)) bound in
    let spent = stamps_spent s es core in omega arith
  where
    bound : (c : ℕ) → stamped (local s es c) ≤ s.attempts + 1
    bound c = let x = (stamped_le (local s es c).stamped (local s es c).begun).1 in
        let y = (static s es core c).begun in omega arith

enrol_found : {k : Kind} (s : Shape) (l : LocalState) (e : Event) → k ≡ Enrol → AllowedAs k s l e →
    (e.place ≡ place s CallersWord) × (e.put ≡ e.found + 1)
enrol_found {k = Enrol} s l e q a = (a.0, a.1.1)
enrol_found s l e q a = absurd (cc)

-- no more callers enrol than there are
pub callers_few : (s : Shape) (es : List Event) → Core s es → word s es CallersWord ≤ s.callers
callers_few s [] core = omega arith
callers_few s (e ∷ es) core = elim (enrolled (step s es e core)) [
  | inl x ↦ let ih = callers_few s es core.0 in omega arith
  | inr x ↦
      let ih = callers_few s es core.0 in
      let found = core.1.enrolled x.0 in
      let here : word s es CallersWord ≡ e.found =
      ap (at es) (sym (enrol_found s (local s es e.caller) e x.0 core.1.allowed).0)
      ∙ sym core.1.linked in
      let below = core.1.caller in omega arith
]

-- none of these words comes near the end of its range
pub record CountsFit (s : Shape) (es : List Event) : Type 0 where
  pub callers : word s es CallersWord + 1 < 2 ^ 64
  pub numbers : word s es NumbersWord + 1 < 2 ^ 64
  pub stamps : word s es StampsWord + 1 < 2 ^ 64

pub counts_fit : {s : Shape} (es : List Event) → IsValid s → Core s es → CountsFit s es
counts_fit {s = s} es v core =
    let callers = v.callers in
    let attempts = v.attempts in
    let product = mul-le s.callers (s.attempts + 1) MAX_CALLERS (MAX_ATTEMPTS + 1) callers (omega arith) in
    let less = mul-le s.callers s.attempts MAX_CALLERS MAX_ATTEMPTS callers attempts in
    let few = callers_few s es core in
    let numbers = numbers_few s es core in
    let stamps = stamps_few s es core in
    record { callers = omega arith; numbers = omega arith; stamps = omega arith }

-- so no add of a run wraps
pub add_fits : (s : Shape) (es : List Event) (e : Event) → IsValid s → Core s es → Fits s es e →
    access e.kind s (local s es e.caller) e ≡ Add → e.found + 1 < 2 ^ 64
add_fits s es e v core f h = go e.kind f.allowed h
  where
    fit : CountsFit s es
    fit = counts_fit es v core

    at_word : (w : Word) → e.place ≡ place s w → word s es w + 1 < 2 ^ 64 → e.found + 1 < 2 ^ 64
    at_word w q h = let same : e.found ≡ word s es w = f.linked ∙ ap (at es) q in omega arith

    go : (k : Kind) → AllowedAs k s (local s es e.caller) e → access k s (local s es e.caller) e ≡ Add →
        e.found + 1 < 2 ^ 64
    go Enrol a h = at_word CallersWord a.0 fit.callers
    go Stamp a h = at_word StampsWord a.0 fit.stamps
    go Draw a h = at_word NumbersWord a.0 fit.numbers
    go k a h = absurd (cc)
