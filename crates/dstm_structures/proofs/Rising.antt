-- Items whose keys differ rise by their keys, once they are sorted by them.
use Rattle.std.proofs.Common.{◌≡◌, ◌≢◌, ◌∙◌, ◌∷◌, ℕ, ◌<◌, true, false, List, [], arith, get_or, length, map, sym, ◌⊎◌, inl, inr}
use Rattle.std.specs.Prelude.{◌==◌, AllPairs}
use Rattle.std.specs.List.Sorted.{IsNonDecreasingBy, IsPermutation}
use Rattle.std.proofs.lemmas.Bool.Decides.{Decides-eqb, eqb_tells}
use Rattle.std.proofs.lemmas.List.{get_or-map, length-map}
use Rattle.std.proofs.lemmas.List.Sorted.{IsPermutation-map}
use Rattle.std.proofs.lemmas.Map.Keys.{IsDistinct-IsPermutation}
use Rattle.std.proofs.lemmas.Map.Made.{AllPairs-from_IsDistinct, IsDistinct-from_AllPairs}

flips : (a b : ℕ) → (a == b) ≡ (b == a)
flips a b = by (eqb_tells a b) (eqb_tells b a)
  where
    by : (((a == b) ≡ true) × (a ≡ b)) ⊎ (((a == b) ≡ false) × (a ≢ b)) →
        (((b == a) ≡ true) × (b ≡ a)) ⊎ (((b == a) ≡ false) × (b ≢ a)) → (a == b) ≡ (b == a)
    by (inl one) (inl other) = one.0 ∙ sym other.0
    by (inl one) (inr other) = absurd (other.1 (sym one.1))
    by (inr one) (inl other) = absurd (one.1 (sym other.1))
    by (inr one) (inr other) = one.0 ∙ sym other.0

module _ {X : Type 0} (key : X → ℕ) where
  differ : (xs : List X) → AllPairs (λ one other. key one ≢ key other) xs → AllPairs (λ a b. a ≢ b) (map key xs)
  differ [] once i j d less within = absurd (omega (arith, within))
  differ (x ∷ rest) once i j d less within = λ same.
      let inside : j < length (x ∷ rest) = omega (arith, within, length-map (x ∷ rest) key) in
      once i j x less inside
      (sym (get_or-map key (x ∷ rest) i x d (omega (arith, less, inside))) ∙ same
      ∙ get_or-map key (x ∷ rest) j x d inside)

  pub rising : (xs ys : List X) → AllPairs (λ one other. key one ≢ key other) xs → IsPermutation xs ys →
      IsNonDecreasingBy key ys → AllPairs (λ one other. key one < key other) ys
  rising xs ys once moved sorted i j d less within =
      let inside : j < length (map key ys) = omega (arith, within, length-map ys key) in
      let apart : key (get_or ys i d) ≢ key (get_or ys j d) =
      λ same. distinct i j (key d) less inside
      (get_or-map key ys i d (key d) (omega (arith, less, within)) ∙ same
      ∙ sym (get_or-map key ys j d (key d) within)) in
      omega (arith, sorted i j d (omega (arith, less)) within, apart)
    where
      distinct : AllPairs (λ a b. a ≢ b) (map key ys)
      distinct =
          AllPairs-from_IsDistinct Decides-eqb (map key ys)
          (IsDistinct-IsPermutation ◌==◌ flips (map key xs) (map key ys) (IsPermutation-map key xs ys moved)
          (IsDistinct-from_AllPairs Decides-eqb (map key xs) (differ xs once)))
