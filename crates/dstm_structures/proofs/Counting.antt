-- A trie stands on fewer cells than it has tips, each at a place of its own: so no trie of n places stands on n cells.
use Rattle.std.proofs.Common.{◌≡◌, ◌∙◌, ◌⊎◌, inl, inr, ℕ, ◌+◌, ◌*◌, ◌/◌, ◌^◌, ◌<◌, ◌≤◌, List, [], ◌∷◌, ◌++◌, length, length-append, ap, arith, refl, subst, sym}
use Rattle.std.specs.Prelude.{Option, Some}
use Rattle.dstm_structures.specs.Orders.{Below, Has, Holds, Trie, fork, tip}
use Rattle.dstm_structures.specs.Tips.{Uses}
use Rattle.dstm_structures.proofs.Orders.{below-key}
use Rattle.dstm_structures.proofs.Places.{some_is}
use Rattle.dstm_structures.proofs.Tries.{has_within}

-- ---- lists of numbers

-- a number is one of these
abbrev pub In : ℕ → List ℕ → Type 0
In c [] = ⊥
In c (x ∷ xs) = (c ≡ x) ⊎ In c xs

-- no number stands here twice
abbrev pub AreApart : List ℕ → Type 0
AreApart [] = Unit {0}
AreApart (x ∷ xs) = (In x xs → ⊥) × AreApart xs

-- these without one of them
take-out : (c : ℕ) (xs : List ℕ) → In c xs →
    (ys : List ℕ) × (length xs ≡ length ys + 1) × ((d : ℕ) → In d xs → (d ≡ c → ⊥) → In d ys)
take-out c [] there = absurd there
take-out c (x ∷ xs) (inl is) = (xs, omega arith, keeps)
  where
    keeps : (d : ℕ) → In d (x ∷ xs) → (d ≡ c → ⊥) → In d xs
    keeps d (inl here) apart = absurd (apart (here ∙ sym is))
    keeps d (inr later) apart = later
take-out c (x ∷ xs) (inr later) = by (take-out c xs later)
  where
    by : (ys : List ℕ) × (length xs ≡ length ys + 1) × ((d : ℕ) → In d xs → (d ≡ c → ⊥) → In d ys) →
        (ys : List ℕ) × (length (x ∷ xs) ≡ length ys + 1) × ((d : ℕ) → In d (x ∷ xs) → (d ≡ c → ⊥) → In d ys)
    by (ys, less, on) = (x ∷ ys, omega (arith, less), keeps)
      where
        keeps : (d : ℕ) → In d (x ∷ xs) → (d ≡ c → ⊥) → In d (x ∷ ys)
        keeps d (inl here) apart = inl here
        keeps d (inr there) apart = inr (on d there apart)

-- numbers that are apart, and all among others, are no more than those
pub no-more : (xs ys : List ℕ) → AreApart xs → ((c : ℕ) → In c xs → In c ys) → length xs ≤ length ys
no-more [] ys apart among = omega arith
no-more (x ∷ xs) ys apart among =
    let rest = take-out x ys (among x (inl refl)) in
    let fewer = no-more xs rest.0 apart.1
    (λ c there. rest.2 c (among c (inr there)) (λ e. apart.0 (subst-in c x there e))) in
    omega (arith, rest.1, fewer)
  where
    subst-in : (c x : ℕ) → In c xs → c ≡ x → In x xs
    subst-in c x there e = subst (λ (y : ℕ). In y xs) e there

in-left : (c : ℕ) (xs ys : List ℕ) → In c xs → In c (xs ++ ys)
in-left c [] ys there = absurd there
in-left c (x ∷ xs) ys (inl is) = inl is
in-left c (x ∷ xs) ys (inr later) = inr (in-left c xs ys later)

in-right : (c : ℕ) (xs ys : List ℕ) → In c ys → In c (xs ++ ys)
in-right c [] ys there = there
in-right c (x ∷ xs) ys there = inr (in-right c xs ys there)

in-either : (c : ℕ) (xs ys : List ℕ) → In c (xs ++ ys) → In c xs ⊎ In c ys
in-either c [] ys there = inr there
in-either c (x ∷ xs) ys (inl is) = inl (inl is)
in-either c (x ∷ xs) ys (inr later) = by (in-either c xs ys later)
  where
    by : In c xs ⊎ In c ys → In c (x ∷ xs) ⊎ In c ys
    by (inl there) = inl (inr there)
    by (inr there) = inr there

both-apart : (xs ys : List ℕ) → AreApart xs → AreApart ys → ((c : ℕ) → In c xs → In c ys → ⊥) → AreApart (xs ++ ys)
both-apart [] ys apart others none = others
both-apart (x ∷ xs) ys apart others none =
    (λ there. by (in-either x xs ys there), both-apart xs ys apart.1 others (λ c there. none c (inr there)))
  where
    by : In x xs ⊎ In x ys → ⊥
    by (inl there) = apart.0 there
    by (inr there) = none x (inl refl) there

-- ---- the cells of a trie, and the places of its tips

abbrev cells_of : Trie → List ℕ
cells_of (tip p k) = []
cells_of (fork p j q l r) = p ∷ (cells_of l ++ cells_of r)

abbrev places_of : Trie → List ℕ
places_of (tip p k) = p ∷ []
places_of (fork p j q l r) = places_of l ++ places_of r

one-more : (t : Trie) → length (places_of t) ≡ length (cells_of t) + 1
one-more (tip p k) = refl
one-more (fork p j q l r) =
    omega (
      arith,
      one-more l,
      one-more r,
      length-append (places_of l) (places_of r),
      length-append (cells_of l) (cells_of r),
    )

uses-in : (c : ℕ) (t : Trie) → Uses c t → In c (cells_of t)
uses-in c (tip p k) used = absurd used
uses-in c (fork p j q l r) (inl is) = inl is
uses-in c (fork p j q l r) (inr (inl used)) = inr (in-left c (cells_of l) (cells_of r) (uses-in c l used))
uses-in c (fork p j q l r) (inr (inr used)) = inr (in-right c (cells_of l) (cells_of r) (uses-in c r used))

in-has : (at : ℕ) (t : Trie) → In at (places_of t) → (key : ℕ) × Has at key t
in-has at (tip p k) (inl is) = (k, (sym is, refl))
in-has at (tip p k) (inr none) = absurd none
in-has at (fork p j q l r) there = by (in-either at (places_of l) (places_of r) there) (in-has at l) (in-has at r)
  where
    by : In at (places_of l) ⊎ In at (places_of r) → (In at (places_of l) → (key : ℕ) × Has at key l) →
        (In at (places_of r) → (key : ℕ) × Has at key r) → (key : ℕ) × Has at key (fork p j q l r)
    by (inl left) of_left of_right = let has = of_left left in (has.0, inl has.1)
    by (inr right) of_left of_right = let has = of_right right in (has.0, inr has.1)

module _ (n : ℕ) (keys : ℕ → Option ℕ) (forks : ℕ → ℕ × ℕ) where
  has-key : (t : Trie) → Holds n keys forks t → (at key : ℕ) → Has at key t → keys at ≡ Some key
  has-key (tip p k) held at key has = ap keys (sym has.0) ∙ held.1 ∙ ap Some has.1
  has-key (fork p j q l r) held at key (inl has) = has-key l held.5 at key has
  has-key (fork p j q l r) held at key (inr has) = has-key r held.6 at key has

  places-apart : (under bits : ℕ) (t : Trie) → Below under bits t → Holds n keys forks t → AreApart (places_of t)
  places-apart under bits (tip p k) b held = (λ none. none, tt)
  places-apart under bits (fork p j q l r) b held =
      both-apart (places_of l) (places_of r) (places-apart j (2 * q) l b.2 held.5)
      (places-apart j (2 * q + 1) r b.3 held.6)
      (λ at left right. never at (in-has at l left) (in-has at r right))
    where
      never : (at : ℕ) → (key : ℕ) × Has at key l → (key : ℕ) × Has at key r → ⊥
      never at (one, has) (other, had) =
          let same : one ≡ other =
          some_is one other (sym (has-key l held.5 at one has) ∙ has-key r held.6 at other had) in
          let low : one / 2 ^ j ≡ 2 * q = below-key j (2 * q) l b.2 at one has in
          let high : other / 2 ^ j ≡ 2 * q + 1 = below-key j (2 * q + 1) r b.3 at other had in
          differ (sym low ∙ ap (λ (x : ℕ). x / 2 ^ j) same ∙ high)
        where
          differ : 2 * q ≡ 2 * q + 1 → ⊥
          differ e = omega (arith, e)

  -- A TRIE DOES NOT STAND ON ALL CELLS
  pub not-on-all : (under bits : ℕ) (t : Trie) → Below under bits t → Holds n keys forks t →
      ((c : ℕ) → c < n → Uses c t) → ⊥
  not-on-all under bits t b held all =
      let few = no-more (places_of t) (cells_of t) (places-apart under bits t b held)
      (λ at there. let has = in-has at t there in
      uses-in at t (all at (has_within n keys forks t held at has.0 has.1))) in
      omega (arith, few, one-more t)
