-- A binary search in rising numbers finds exactly the numbers that are there.
use Rattle.std.proofs.Common.{◌≡◌, ℕ, ◌≤◌, ◌<◌, List, length, get_or, Result, Ok, Err, is_ok}
use Rattle.std.proofs.Common.{◌↔◌, refl, ◌∙◌, arith, IsTrue, Contains}
use Rattle.std.specs.Ordering.{nat_cmp}
use Rattle.std.specs.List.Sorted.{IsBinarySearchResult, IsNonDecreasing}
use Rattle.std.proofs.lemmas.List.{get_or_default}
use Rattle.std.proofs.lemmas.List.Sorted.{searched}

-- nothing stands between the lower numbers and the higher ones
none_between : (xs : List ℕ) (x i : ℕ) → ((k : ℕ) → k < i → get_or xs k 0 < x)
    → ((k : ℕ) → i ≤ k → k < length xs → x < get_or xs k 0)
    → (k : ℕ) → k < length xs → get_or xs k 0 ≡ x → ⊥
none_between xs x i below above k within is = grind (arith, below k, above k)

pub found_exactly : (xs : List ℕ) (x : ℕ) (r : Result ℕ ℕ) → IsNonDecreasing xs
    → IsBinarySearchResult (λ y. nat_cmp y x) xs r → IsTrue (is_ok r) ↔ Contains xs x
found_exactly xs x (Ok i) rising result =
    let found = searched xs x (Ok i) result (λ i j. rising i j 0) in
    (λ _. (i, found.0, get_or_default xs i x 0 found.0 ∙ found.1), λ _. refl)
found_exactly xs x (Err i) rising result =
    let absent = searched xs x (Err i) result (λ i j. rising i j 0) in (
      λ never. cc,
      λ (k, within, is).
          absurd (none_between xs x i absent.1 absent.2 k within (get_or_default xs k 0 x within ∙ is)),
    )
