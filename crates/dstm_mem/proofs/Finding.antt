-- Lists of which at most one element passes a test.
use Rattle.std.proofs.Common.{◌≡◌, ◌<◌, ◌∷◌, ◌⊎◌, ℕ, List, [], Bool, true, false, Some, None, inl, inr, refl, arith}
use Prim.Native.Nat.{zero, suc}
use Rattle.std.specs.Map.{lookup}
use Rattle.std.specs.Prelude.{◌&&◌, filter, find, length, option_map, slice_index_or}
use Rattle.std.proofs.lemmas.Bool.{cases_Bool}

module _ {T : Type 0} (test : T → Bool) (d : T) where
  -- none does
  pub find_none : (xs : List T) → ((i : ℕ) → i < length xs → test (slice_index_or xs i d) ≡ true → ⊥) →
      find test xs ≡ None
  find_none [] none = refl
  find_none (x ∷ xs) none =
      go (cases_Bool (test x)) (find_none xs (λ i lt q. none (suc i) (omega arith) q))
    where
      go : (test x ≡ true) ⊎ (test x ≡ false) → find test xs ≡ None → find test (x ∷ xs) ≡ None
      go (inl q) ih = absurd (none 0 (omega arith) q)
      go (inr q) ih = rw q ih

  -- one does
  pub find_one : (xs : List T) (n : ℕ) → n < length xs → test (slice_index_or xs n d) ≡ true →
      ((i : ℕ) → i < length xs → test (slice_index_or xs i d) ≡ true → i ≡ n) →
      find test xs ≡ Some (slice_index_or xs n d)
  find_one [] n lt is only = absurd (omega arith)
  find_one (x ∷ xs) zero lt is only = rw is refl
  find_one (x ∷ xs) (suc n) lt is only =
      go (cases_Bool (test x))
      (find_one xs n (omega arith) is (λ i lt q. let e = only (suc i) (omega arith) q in omega arith))
    where
      go : (test x ≡ true) ⊎ (test x ≡ false) → find test xs ≡ Some (slice_index_or xs n d) →
          find test (x ∷ xs) ≡ Some (slice_index_or (x ∷ xs) (suc n) d)
      go (inl q) ih = let e = only 0 (omega arith) q in absurd (omega arith)
      go (inr q) ih = rw q ih

-- among those that pass another test
pub find_filter : {T : Type 0} (test keep : T → Bool) (xs : List T) →
    find test (filter keep xs) ≡ find (λ x. keep x && test x) xs
find_filter test keep [] = refl
find_filter test keep (x ∷ xs) = go (cases_Bool (keep x)) (cases_Bool (test x)) (find_filter test keep xs)
  where
    go : (keep x ≡ true) ⊎ (keep x ≡ false) → (test x ≡ true) ⊎ (test x ≡ false) →
        find test (filter keep xs) ≡ find (λ x. keep x && test x) xs →
        find test (filter keep (x ∷ xs)) ≡ find (λ x. keep x && test x) (x ∷ xs)
    go (inl k) (inl q) ih = rw k (rw q refl)
    go (inl k) (inr q) ih = rw k (rw q ih)
    go (inr k) q ih = rw k ih

-- the value of a key, from its pair
pub lookup_find : {X : Type 0} (test : ℕ → Bool) (pairs : List (ℕ × X)) →
    lookup test pairs ≡ option_map (λ (p : ℕ × X). p.1) (find (λ (p : ℕ × X). test p.0) pairs)
lookup_find test [] = refl
lookup_find test (p ∷ pairs) = go (cases_Bool (test p.0)) (lookup_find test pairs)
  where
    go : (test p.0 ≡ true) ⊎ (test p.0 ≡ false) →
        lookup test pairs ≡ option_map (λ p. p.1) (find (λ p. test p.0) pairs) →
        lookup test (p ∷ pairs) ≡ option_map (λ p. p.1) (find (λ p. test p.0) (p ∷ pairs))
    go (inl q) ih = rw q refl
    go (inr q) ih = rw q ih
