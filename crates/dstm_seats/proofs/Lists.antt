-- Lists of views, sums over them, and lists of numbers.
use Rattle.std.proofs.Common.{◌≡◌, ◌≢◌, ℕ, zero, suc, ◌+◌, ◌<◌, ◌≤◌, true, false, true≢false, List, [], ◌∷◌, ◌++◌, length, set, get_or, refl, sym, ap, subst, ⊎_elim, arith, Some, None}
use Rattle.std.specs.Prelude.{sum_by, Contains}
use Rattle.std.proofs.lemmas.List.Elements.{Contains-append_cases, Contains-append_left, Contains-append_right}
use Rattle.std.proofs.lemmas.List.Sums.{sum_by-cons}
use mathlib.Core.Option.{some, some-ne-none, some-injective}
use lib.ListN.{get_elem?}
use Rattle.atomic_table.proofs.Lists.{at_set}
use Rattle.dstm_seats.specs.Seats.{AreApart}

pub off : false ≡ true → ⊥
off e = true≢false (sym e)

pub some_of : {A : Type 0} (a b : A) → Some a ≡ Some b → a ≡ b
some_of a b e = cc

pub none_some : {A : Type 0} (a : A) → None ≡ Some a → ⊥
none_some a e = cc

module _ {X : Type 0} where
  pub inside_of : (xs : List X) (i : ℕ) (x : X) → get_elem? xs i ≡ some x → i < length xs
  inside_of [] i x e = absurd (some-ne-none x (sym e))
  inside_of (y ∷ xs) zero x e = omega arith
  inside_of (y ∷ xs) (suc i) x e = let l = inside_of xs i x e in omega arith

  -- a fact of each element stays so where one of them changes
  pub each_set : (P : ℕ → X → Type 0) (xs : List X) (i : ℕ) (x : X) → P i x →
      ((j : ℕ) (y : X) → j ≢ i → get_elem? xs j ≡ some y → P j y) →
      (j : ℕ) (y : X) → get_elem? (set xs i x) j ≡ some y → P j y
  each_set P xs i x mine others j y e = ⊎_elim
      (λ (t : (j ≡ i) × (x ≡ y)). subst (λ (z : ℕ × X). P z.0 z.1) (λ k. (sym t.0 k, t.1 k)) mine)
      (λ (t : (j ≢ i) × (get_elem? xs j ≡ some y)). others j y t.0 t.1) (at_set xs i j x y e)

  pub set_comm : (xs : List X) (i j : ℕ) (x y : X) → i ≢ j → set (set xs i x) j y ≡ set (set xs j y) i x
  set_comm [] i j x y n = refl
  set_comm (z ∷ xs) zero zero x y n = absurd (n refl)
  set_comm (z ∷ xs) zero (suc j) x y n = refl
  set_comm (z ∷ xs) (suc i) zero x y n = refl
  set_comm (z ∷ xs) (suc i) (suc j) x y n = ap (λ t. z ∷ t) (set_comm xs i j x y (λ e. n (ap suc e)))

  module _ (f : X → ℕ) where
    pub sum_set : (xs : List X) (i : ℕ) (x y : X) → get_elem? xs i ≡ some x →
        sum_by f (set xs i y) + f x ≡ sum_by f xs + f y
    sum_set [] i x y e = absurd (some-ne-none x (sym e))
    sum_set (z ∷ xs) zero x y e =
        let same : f z ≡ f x = ap f (some-injective z x e) in
        omega (arith, sum_by-cons f y xs, sum_by-cons f z xs)
    sum_set (z ∷ xs) (suc i) x y e = omega (arith, sum_set xs i x y e, sum_by-cons f z (set xs i y), sum_by-cons f z xs)

    -- no term is greater than the sum
    pub sum_at : (xs : List X) (i : ℕ) (x : X) → get_elem? xs i ≡ some x → f x ≤ sum_by f xs
    sum_at [] i x e = absurd (some-ne-none x (sym e))
    sum_at (z ∷ xs) zero x e =
        let same : f z ≡ f x = ap f (some-injective z x e) in omega (arith, sum_by-cons f z xs)
    sum_at (z ∷ xs) (suc i) x e = omega (arith, sum_at xs i x e, sum_by-cons f z xs)

    -- a sum is 0 where each term is
    pub sum_zero : (xs : List X) → ((i : ℕ) (x : X) → get_elem? xs i ≡ some x → f x ≡ 0) → sum_by f xs ≡ 0
    sum_zero [] each = refl
    sum_zero (x ∷ xs) each =
        let a = each 0 x refl in
        let b = sum_zero xs (λ i y e. each (suc i) y e) in omega (arith, sum_by-cons f x xs)

pub get_or_at : (xs : List ℕ) (i x : ℕ) → get_elem? xs i ≡ some x → get_or xs i 0 ≡ x
get_or_at [] i x e = absurd (some-ne-none x (sym e))
get_or_at (y ∷ xs) zero x e = some-injective y x e
get_or_at (y ∷ xs) (suc i) x e = get_or_at xs i x e

pub no_number : (n : ℕ) → Contains [] n → ⊥
no_number n h = let l = h.1 in omega arith

pub one_of : (m n : ℕ) → Contains (m ∷ []) n → n ≡ m
one_of m n (zero, l, is) = sym is
one_of m n (suc k, l, is) = absurd (omega arith)

pub head_of : (m : ℕ) (ns : List ℕ) → Contains (m ∷ ns) m
head_of m ns = (0, omega arith, refl)

pub apart_append : (xs ys : List ℕ) → AreApart xs → AreApart ys →
    ((n : ℕ) → Contains xs n → Contains ys n → ⊥) → AreApart (xs ++ ys)
apart_append [] ys a b none = b
apart_append (x ∷ xs) ys a b none = (
  (λ h. ⊎_elim a.0 (λ there. none x (Contains-append_left (x ∷ []) xs x (0, omega arith, refl)) there)
      (Contains-append_cases xs ys x h)),
  apart_append xs ys a.1 b (λ n i j. none n (Contains-append_right (x ∷ []) xs n i) j),
)

-- of two lists that have no number twice together, none is in both
pub apart_of : (xs ys : List ℕ) (n : ℕ) → AreApart (xs ++ ys) → Contains xs n → Contains ys n → ⊥
apart_of [] ys n apart left right = no_number n left
apart_of (x ∷ xs) ys n apart left right = ⊎_elim
    (λ here. apart.0 (rw (← one_of x n here) (Contains-append_right xs ys n right)))
    (λ there. apart_of xs ys n apart.1 there right) (Contains-append_cases (x ∷ []) xs n left)
