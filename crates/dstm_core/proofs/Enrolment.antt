-- Who has a number: a caller enrols first, and makes no other event on the word that counts the callers.
use Rattle.std.proofs.Common.{◌+◌, ◌∙◌, ◌≡◌, ◌≢◌, ◌⊎◌, ℕ, inl, inr, refl, ap, arith, sym, true, false, is_some}
use Rattle.dstm_core.proofs.Base.{AllowedAs, CallersWord, Enrol, Event, Kind, LocalState, MayRank, Outside, Phase, Rank, Shape, after, cases_Bool, first, nat_tests, place, target}
use Rattle.dstm_core.proofs.Places.{same_place}
use Rattle.dstm_core.proofs.Static.{Static, Inside}

-- a caller's first event is an Enrol
pub enrols : (s : Shape) (e : Event) (k : Kind) → AllowedAs k s first e →
    (k ≡ Enrol) × (e.place ≡ place s CallersWord) × (e.put ≡ e.found + 1)
enrols s e Enrol a = (refl, a.0, a.1.1)
enrols s e k a = absurd (grind arith)

not_callers : (s : Shape) (l : LocalState) (e : Event) (k : Kind) → k ≢ Enrol → target k s l e ≡ CallersWord → ⊥
not_callers s l e Enrol n q = n refl
not_callers s l e k n q = cc

-- an event of another kind lies elsewhere
pub lies_elsewhere : (s : Shape) (l : LocalState) (e : Event) (k : Kind) → k ≢ Enrol → AllowedAs k s l e →
    e.place ≢ place s CallersWord
lies_elsewhere s l e k n a q = not_callers s l e k n (same_place s (target k s l e) CallersWord a.3 tt (sym a.0 ∙ q))

-- a number once found is kept
pub number_kept : (s : Shape) (l : LocalState) (e : Event) (k : Kind) → k ≢ Enrol → (after k s l e).number ≡ l.number
number_kept s l e Enrol n = absurd (n refl)
number_kept s l e k n = grind (arith, nat_tests)

-- without a number there is no attempt, and no event but an Enrol
outside : (s : Shape) (c : ℕ) (l : LocalState) → Static s c l → is_some l.number ≡ false → l.phase ≡ Outside
outside s c l t q = go t.active
  where
    go : (l.phase ≡ Outside) ⊎ Inside c l.number l.begun → l.phase ≡ Outside
    go (inl x) = x
    go (inr x) = let some = x.0 in absurd (cc)

rank_outside : {p : Phase} (s : Shape) (l : LocalState) (n : ℕ) → p ≡ Outside → MayRank p s l n →
    is_some l.number ≡ true
rank_outside {p = Outside} s l n q m = m.0
rank_outside s l n q m = absurd (cc)

without : (s : Shape) (c : ℕ) (l : LocalState) (e : Event) (k : Kind) → k ≢ Enrol → Static s c l →
    is_some l.number ≡ false → AllowedAs k s l e → ⊥
without s c l e Enrol n t q a = n refl
without s c l e Rank n t q a = let out = outside s c l t q in
    (let may = rank_outside s l e.put out a.2 in cc)
without s c l e k n t q a = let out = outside s c l t q in grind arith

numbered : (s : Shape) (c : ℕ) (l : LocalState) (e : Event) (k : Kind) → k ≢ Enrol → Static s c l →
    AllowedAs k s l e → is_some (after k s l e).number ≡ true
numbered s c l e k n t a = elim (cases_Bool (is_some l.number)) [
  | inl q ↦ ap is_some (number_kept s l e k n) ∙ q
  | inr q ↦ absurd (without s c l e k n t q a)
]

-- a caller that made an event has a number
pub has_number : (s : Shape) (c : ℕ) (l : LocalState) (e : Event) (k : Kind) → Static s c l →
    AllowedAs k s l e → is_some (after k s l e).number ≡ true
has_number s c l e Enrol t a = refl
has_number s c l e k t a = numbered s c l e k (λ z. cc) t a
