-- Places in order: which is the next, what is left without one, and with one more.
use Rattle.std.proofs.Common.{◌≡◌, ◌+◌, ◌<◌, ◌≤◌, ◌⊎◌, ◌∙◌, ℕ, List, [], ◌∷◌, Option, Some, None, Bor, inl, inr, suc, zero, refl, ap, sym, arith}
use Rattle.dstm_core.proofs.Base.{count_before, nat_tests}
use Rattle.std.proofs.lemmas.Grind.{common_steps}
use Rattle.std.proofs.lemmas.Map.Keys.{sorted_head, sorted_tail}
use Rattle.std.specs.BTreeMap.Range.{range_contains}
use Rattle.std.specs.declared.ops.Bound.TheVariants.{Included, Unbounded}
use Rattle.std.specs.declared.cmp.Ordering.TheVariants.{Less}
use Rattle.std.specs.List.{AllByRecursion, filter, slice_get}
use Rattle.std.specs.List.Sorted.{IsStrictlySortedBy}
use Rattle.std.specs.Option.{IfSome, MatchOption, option_copied}
use Rattle.std.specs.Ordering.{nat_cmp}

-- ---- rising places
above : (k y : ℕ) → nat_cmp k y ≡ Less → k < y
above k y e = grind (arith, nat_tests)

none_before : (c : ℕ) (ks : List ℕ) (k : ℕ) → c ≤ k + 1 → AllByRecursion (λ y. nat_cmp k y ≡ Less) ks →
    count_before c ks ≡ 0
none_before c [] k h a = refl
none_before c (y ∷ ks) k h a =
    let up = above k y a.0 in let others = none_before c ks k h a.1 in grind (arith, nat_tests)

-- whether a number is below another one
below_or : (k c : ℕ) → (k < c) ⊎ (c ≤ k)
below_or k c = grind arith

count_yes : (c k : ℕ) (ks : List ℕ) → k < c → count_before c (k ∷ ks) ≡ suc (count_before c ks)
count_yes c k ks h = grind (arith, nat_tests, common_steps)

count_no : (c k : ℕ) (ks : List ℕ) → c ≤ k → count_before c (k ∷ ks) ≡ count_before c ks
count_no c k ks h = grind (arith, nat_tests)

-- the places that do not stand before c
abbrev from : ℕ → List ℕ → List ℕ
from c ks = filter (λ k. range_contains nat_cmp (Included c) Unbounded k) ks

from_no : (c k : ℕ) (ks : List ℕ) → k < c → from c (k ∷ ks) ≡ from c ks
from_no c k ks h = grind (arith, nat_tests)

from_yes : (c k : ℕ) (ks : List ℕ) → c ≤ k → from c (k ∷ ks) ≡ k ∷ from c ks
from_yes c k ks h = grind (arith, nat_tests)

-- the next place is the first that does not stand before c
pub next_is : (c : ℕ) (ks : List ℕ) → IsStrictlySortedBy nat_cmp ks →
    slice_get ks (count_before c ks) ≡ slice_get (from c ks) 0
next_is c [] s = refl
next_is c (k ∷ ks) s = elim (below_or k c) [
  | inl h ↦ rw (count_yes c k ks h, from_no c k ks h) (next_is c ks (sorted_tail nat_cmp k ks s))
  | inr h ↦
      let e = next_is c ks (sorted_tail nat_cmp k ks s) in
      let none : count_before c (k ∷ ks) ≡ 0 = count_no c k ks h
      ∙ none_before c ks k (omega arith) (sorted_head nat_cmp k ks s) in
      rw (none, from_yes c k ks h) refl
]

later : (k p : ℕ) (ks : List ℕ) (i : ℕ) → AllByRecursion (λ y. nat_cmp k y ≡ Less) ks → slice_get ks i ≡ Some p → k < p
later k p [] i a e = absurd (cc)
later k p (y ∷ ks) zero a e = let up = above k y a.0 in let same : y ≡ p = cc in omega arith
later k p (y ∷ ks) (suc i) a e = later k p ks i a.1 e

-- once the next place is passed, one place more stands before
pub next_count : (c p : ℕ) (ks : List ℕ) → IsStrictlySortedBy nat_cmp ks →
    slice_get ks (count_before c ks) ≡ Some p → count_before (p + 1) ks ≡ count_before c ks + 1
next_count c p [] s e = absurd (cc)
next_count c p (k ∷ ks) s e = elim (below_or k c) [
  | inl h ↦
      let rest : slice_get ks (count_before c ks) ≡ Some p = rw (count_yes c k ks h) at e in
      let up = later k p ks (count_before c ks) (sorted_head nat_cmp k ks s) rest in
      let one = count_yes (p + 1) k ks (omega arith) in
      let more = count_yes c k ks h in
      let all = next_count c p ks (sorted_tail nat_cmp k ks s) rest in
      omega arith
  | inr h ↦
      let none : count_before c (k ∷ ks) ≡ 0 = count_no c k ks h
      ∙ none_before c ks k (omega arith) (sorted_head nat_cmp k ks s) in
      let first : Some k ≡ Some p = rw (none) at e in
      let same : k ≡ p = cc in
      let one = count_yes (p + 1) k ks (omega arith) in
      let rest = none_before (p + 1) ks k (omega arith) (sorted_head nat_cmp k ks s) in
      omega arith
]

pub next_counts : (c : ℕ) (ks : List ℕ) {o : Option ℕ} → IsStrictlySortedBy nat_cmp ks →
    o ≡ slice_get ks (count_before c ks) → IfSome o (λ p. count_before (p + 1) ks ≡ count_before c ks + 1)
next_counts c ks {o = None} s e = tt
next_counts c ks {o = (Some p)} s e = next_count c p ks s (sym e)

-- the first of some places, as an iterator over them gives it
pub first_given : (ks : List ℕ) (o : Option (Bor ℕ)) (rest : List ℕ)
    → MatchOption o ((ks ≡ []) × (rest ≡ [])) (λ x. ks ≡ x.now ∷ rest) → option_copied o ≡ slice_get ks 0
first_given ks None rest h = sym (ap (λ (xs : List ℕ). slice_get xs 0) h.0)
first_given ks (Some x) rest h = sym (ap (λ (xs : List ℕ). slice_get xs 0) h)
