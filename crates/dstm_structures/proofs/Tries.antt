-- Tries of keys in cells: which cells they stand on, and what they hold once a cell was set.
use Rattle.std.proofs.Common.{◌≡◌, ◌∙◌, ℕ, ◌+◌, ◌*◌, ◌/◌, ◌^◌, ◌<◌, ◌≤◌, ap, arith, refl, sym, ◌⊎◌, inl, inr}
use Rattle.std.specs.Prelude.{Option}
use Rattle.std.proofs.lemmas.Bool.{cases_eq}
use Rattle.std.proofs.Math.Nat.{mul-div_cancel}
use Rattle.std.proofs.lemmas.Nat.{pow_pos}
use Rattle.dstm_structures.specs.Orders.{Below, Has, Holds, Trie, fork, left_in, level_in, link_to, right_in, tip}
use Rattle.dstm_structures.specs.Tips.{Uses}
use Rattle.dstm_structures.proofs.Powers.{half, same_higher}

-- ---- the bits of the keys of a trie

-- what a prefix stands for at its level
pub prefix_at : (q j : ℕ) → q * 2 ^ (j + 1) / 2 ^ (j + 1) ≡ q
prefix_at q j = mul-div_cancel q (pow_pos (j + 1))

-- a number that has a fork's prefix has the bits of what the fork stands below
pub under_fork : (x j q under bits y : ℕ) → j < under → q * 2 ^ (j + 1) / 2 ^ under ≡ bits → x / 2 ^ j ≡ y → y / 2 ≡ q →
    x / 2 ^ under ≡ bits
under_fork x j q under bits y less is at half_is =
    same_higher x (q * 2 ^ (j + 1)) (j + 1) under (omega (arith, less))
    (half x j ∙ ap (λ (b : ℕ). b / 2) at ∙ half_is ∙ sym (prefix_at q j)) ∙ is

pub half_even : (q : ℕ) → 2 * q / 2 ≡ q
half_even q = omega arith

pub half_odd : (q : ℕ) → (2 * q + 1) / 2 ≡ q
half_odd q = omega arith

-- a side of a fork stands where the fork stood
pub widen : (j q under bits y : ℕ) → j < under → q * 2 ^ (j + 1) / 2 ^ under ≡ bits → y / 2 ≡ q → (t : Trie) → Below j y t →
    Below under bits t
widen j q under bits y less is half_is (tip a h) b = under_fork h j q under bits y less is b half_is
widen j q under bits y less is half_is (fork c i p l r) b =
    (omega (arith, b.0, less), under_fork (p * 2 ^ (i + 1)) j q under bits y less is b.1 half_is, b.2, b.3)

-- ---- the cells that a trie stands on

pub uses_or_not : (c : ℕ) (t : Trie) → Uses c t ⊎ (Uses c t → ⊥)
uses_or_not c (tip p k) = inr (λ used. used)
uses_or_not c (fork p j q l r) = by (cases_eq c p) (uses_or_not c l) (uses_or_not c r)
  where
    by : (c ≡ p) ⊎ (c ≡ p → ⊥) → Uses c l ⊎ (Uses c l → ⊥) → Uses c r ⊎ (Uses c r → ⊥) →
        Uses c (fork p j q l r) ⊎ (Uses c (fork p j q l r) → ⊥)
    by (inl e) left right = inl (inl e)
    by (inr apart) (inl used) right = inl (inr (inl used))
    by (inr apart) (inr off) (inl used) = inl (inr (inr used))
    by (inr apart) (inr off) (inr away) = inr never
      where
        never : Uses c (fork p j q l r) → ⊥
        never (inl e) = apart e
        never (inr (inl used)) = off used
        never (inr (inr used)) = away used

module _ (n : ℕ) (keys : ℕ → Option ℕ) (forks : ℕ → ℕ × ℕ) where
  -- the cell of each fork tells that it stands there
  pub told : (under bits : ℕ) (t : Trie) → Below under bits t → Holds n keys forks t → (c : ℕ) → Uses c t →
      (level_in (forks c).1 < under) × ((forks c).0 * 2 ^ (level_in (forks c).1 + 1) / 2 ^ under ≡ bits)
  told under bits (tip a h) b held c uses = absurd uses
  told under bits (fork p j q l r) b held c (inl is) =
      let level : level_in (forks c).1 ≡ j = ap (λ (x : ℕ). level_in (forks x).1) is ∙ held.1 in
      let prefix : (forks c).0 ≡ q = ap (λ (x : ℕ). (forks x).0) is ∙ held.2 in (
        omega (arith, level, b.0),
        ap (λ (x : ℕ). x * 2 ^ (level_in (forks c).1 + 1) / 2 ^ under) prefix
            ∙ ap (λ (x : ℕ). q * 2 ^ (x + 1) / 2 ^ under) level ∙ b.1,
      )
  told under bits (fork p j q l r) b held c (inr (inl uses)) =
      let there = told j (2 * q) l b.2 held.5 c uses in (
        omega (arith, there.0, b.0),
        under_fork ((forks c).0 * 2 ^ (level_in (forks c).1 + 1)) j q under bits (2 * q) b.0 b.1 there.1 (half_even q),
      )
  told under bits (fork p j q l r) b held c (inr (inr uses)) =
      let there = told j (2 * q + 1) r b.3 held.6 c uses in (
        omega (arith, there.0, b.0),
        under_fork ((forks c).0 * 2 ^ (level_in (forks c).1 + 1)) j q under bits (2 * q + 1) b.0 b.1 there.1 (half_odd q),
      )

  -- a trie does not stand on the cell of a fork above it
  pub not_above : (under bits : ℕ) (t : Trie) → Below under bits t → Holds n keys forks t → (c : ℕ) →
      under ≤ level_in (forks c).1 → Uses c t → ⊥
  not_above under bits t b held c high uses = omega (arith, high, (told under bits t b held c uses).0)

  -- two tries with other bits stand on other cells
  pub apart_sides : (under bits others : ℕ) (t u : Trie) → (bits ≡ others → ⊥) → Below under bits t → Below under others u →
      Holds n keys forks t → Holds n keys forks u → (c : ℕ) → Uses c t → Uses c u → ⊥
  apart_sides under bits others t u apart b d held holds c uses used =
      apart (sym (told under bits t b held c uses).1 ∙ (told under others u d holds c used).1)

  -- a free cell is in no trie
  pub linked : (t : Trie) → link_to t ≡ 0 → ⊥
  linked (tip p k) none = omega (arith, none)
  linked (fork p j q l r) none = omega (arith, none)

  pub not_free : (t : Trie) → Holds n keys forks t → (c : ℕ) → (forks c).1 ≡ 0 → Uses c t → ⊥
  not_free (tip p k) held c free uses = uses
  not_free (fork p j q l r) held c free (inl is) =
      linked l (sym held.3 ∙ ap (λ (x : ℕ). left_in (forks x).1) (sym is) ∙ ap left_in free)
  not_free (fork p j q l r) held c free (inr (inl uses)) = not_free l held.5 c free uses
  not_free (fork p j q l r) held c free (inr (inr uses)) = not_free r held.6 c free uses

  -- a trie that stands on none of the cells that were set is held as before
  pub holds_on : (after : ℕ → Option ℕ) (now : ℕ → ℕ × ℕ) (t : Trie) → ((p k : ℕ) → Has p k t → after p ≡ keys p) →
      ((c : ℕ) → Uses c t → now c ≡ forks c) → Holds n keys forks t → Holds n after now t
  holds_on after now (tip p k) same stays held = (held.0, same p k (refl, refl) ∙ held.1)
  holds_on after now (fork p j q l r) same stays held =
      let here = stays p (inl refl) in (
        held.0,
        ap (λ (w : ℕ × ℕ). level_in w.1) here ∙ held.1,
        ap (λ (w : ℕ × ℕ). w.0) here ∙ held.2,
        ap (λ (w : ℕ × ℕ). left_in w.1) here ∙ held.3,
        ap (λ (w : ℕ × ℕ). right_in w.1) here ∙ held.4,
        holds_on after now l (λ p k has. same p k (inl has)) (λ c uses. stays c (inr (inl uses))) held.5,
        holds_on after now r (λ p k has. same p k (inr has)) (λ c uses. stays c (inr (inr uses))) held.6,
      )

pub has_within : (n : ℕ) (keys : ℕ → Option ℕ) (forks : ℕ → ℕ × ℕ) (t : Trie) → Holds n keys forks t → (p k : ℕ) → Has p k t →
    p < n
has_within n keys forks (tip a h) held p k has = omega (arith, held.0, has.0)
has_within n keys forks (fork c j q l r) held p k (inl has) = has_within n keys forks l held.5 p k has
has_within n keys forks (fork c j q l r) held p k (inr has) = has_within n keys forks r held.6 p k has

-- ---- a fork of which one side got other tips

-- One side of a fork was made anew from its own cells and some that neither the fork nor the other side stands on, and then the
-- fork's cell was set.
module _ (n : ℕ) (keys middle after : ℕ → Option ℕ) (forks mid now : ℕ → ℕ × ℕ) (p j : ℕ) (near : Trie) (y : ℕ)
    (new : ℕ → Type 0) (level : level_in (forks p).1 ≡ j) (b : Below j y near) (held : Holds n keys forks near)
    (same_on : (p : ℕ) → p < n → after p ≡ middle p)
    (others : (c : ℕ) → (c ≡ p → ⊥) → now c ≡ mid c) where
  below_it : (c : ℕ) → c ≡ p → j ≤ level_in (forks c).1
  below_it c is =
      let e : level_in (forks c).1 ≡ j = ap (λ (x : ℕ). level_in (forks x).1) is ∙ level in omega (arith, e)

  pub near_held : (grown : Trie) → ((c : ℕ) → new c → c ≡ p → ⊥) → ((c : ℕ) → Uses c grown → Uses c near ⊎ new c) →
      Holds n middle mid grown → Holds n after now grown
  near_held grown out uses held_mid =
      holds_on n middle mid after now grown (λ a k has. same_on a (has_within n middle mid grown held_mid a k has))
      (λ c used. others c (λ is. by c is (uses c used))) held_mid
    where
      by : (c : ℕ) → c ≡ p → Uses c near ⊎ new c → ⊥
      by c is (inl used) = not_above n keys forks j y near b held c (below_it c is) used
      by c is (inr fresh) = out c fresh is

  pub far_held : (far : Trie) (z : ℕ) → (y ≡ z → ⊥) → Below j z far → Holds n keys forks far →
      ((p : ℕ) → p < n → middle p ≡ keys p) → ((c : ℕ) → new c → Uses c far → ⊥) →
      ((c : ℕ) → (Uses c near → ⊥) → (new c → ⊥) → mid c ≡ forks c) → Holds n after now far
  far_held far z apart d holds same off stays =
      holds_on n keys forks after now far
      (λ a k has. let inside = has_within n keys forks far holds a k has in same_on a inside ∙ same a inside)
      (λ c used. others c (λ is. not_above n keys forks j z far d holds c (below_it c is) used)
      ∙ stays c (λ stood. apart_sides n keys forks j y z near far apart b d held holds c stood used)
      (λ fresh. off c fresh used)) holds
