-- A caller's own events count the attempts that it has begun and the locators that it has installed.
use Rattle.std.proofs.Common.{Bool, ◌+◌, ◌==◌, ◌∙◌, ◌∷◌, ◌≡◌, ◌≢◌, ◌⊎◌, List, [], arith, cond, false, inl, inr, refl, true, ℕ}
use Rattle.std.specs.Prelude.{count_by}
use Rattle.dstm_core.proofs.Base.{Begin, Event, Kind, LocalState, Shape, after, cases_Bool, events_of, local}
use Rattle.std.proofs.lemmas.List.Sums.{sum_by-cons}
use Rattle.dstm_core.specs.Counts.{begin_count, is_begin}
use Rattle.dstm_core.proofs.Begun.{begun_how}

one_more : (b : Bool) (m n k : ℕ) → m ≡ cond b (n + 1) n → k ≡ n → cond b 1 0 + k ≡ m
one_more true m n k h q = omega arith
one_more false m n k h q = omega arith

-- a number of a caller's state that rises by 1 at the events of a kind, and stays at the others, counts them
counted : (s : Shape) (p : Event → Bool) (f : LocalState → ℕ) (es : List Event) (c : ℕ) →
    ((l : LocalState) (e : Event) → f (after e.kind s l e) ≡ cond (p e) (f l + 1) (f l)) →
    f (local s [] c) ≡ 0 → count_by p (events_of c es) ≡ f (local s es c)
counted s p f [] c step zero = omega arith
counted s p f (e ∷ es) c step zero = elim (cases_Bool (e.caller == c)) [
  | inl q ↦
      rw q
      (sum_by-cons (λ (x : Event). cond (p x) 1 0) e (events_of c es)
      ∙ one_more (p e) (f (after e.kind s (local s es c) e)) (f (local s es c)) (count_by p (events_of c es))
      (step (local s es c) e) (counted s p f es c step zero))
  | inr q ↦ rw q (counted s p f es c step zero)
]

begun_counts : (s : Shape) (l : LocalState) (e : Event) (k : Kind) →
    (after k s l e).begun ≡ cond (is_begin k) (l.begun + 1) l.begun
begun_counts s l e Begin = refl
begun_counts s l e k = elim (begun_how s l e k) [ inl x ↦ absurd (let q = x.0 in cc) | inr x ↦ x.1 ]

pub begins_are_counted : (s : Shape) (es : List Event) (c : ℕ) → begin_count c es ≡ (local s es c).begun
begins_are_counted s es c =
    counted s (λ (e : Event). is_begin e.kind) (λ (l : LocalState). l.begun) es c
    (λ l e. begun_counts s l e e.kind) refl
