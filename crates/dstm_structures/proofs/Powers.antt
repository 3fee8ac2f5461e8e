-- Numbers by their higher bits.
use Rattle.std.proofs.Common.{◌≡◌, ◌∙◌, ℕ, suc, ◌+◌, ◌*◌, ◌-◌, ◌/◌, ◌^◌, ◌<◌, ◌≤◌, ap, arith, bit_xor, subst, sym, ◌⊎◌, inl, inr}
use Rattle.std.specs.Int.Count.{count_leading_zeros}
use Rattle.std.proofs.Math.Nat.{div-div-eq-div-mul}
use Rattle.std.proofs.lemmas.Grind.{common_steps}
use Rattle.std.proofs.lemmas.Nat.{leading_top, pow-add, pow_pos, shr_split, xor_lt, xor_shr}

-- the bits so much higher
pub higher : (x j d : ℕ) → x / 2 ^ (j + d) ≡ x / 2 ^ j / 2 ^ d
higher x j d = ap (λ (m : ℕ). x / m) (pow-add 2 j d) ∙ sym (div-div-eq-div-mul x (2 ^ j) (2 ^ d))

pub half : (x j : ℕ) → x / 2 ^ (j + 1) ≡ x / 2 ^ j / 2
half x j = higher x j 1

-- numbers with the same bits from a level on have the same bits from each higher one on
pub same_higher : (x y j h : ℕ) → j ≤ h → x / 2 ^ j ≡ y / 2 ^ j → x / 2 ^ h ≡ y / 2 ^ h
same_higher x y j h le same =
    let split : h ≡ j + (h - j) = omega (arith, le) in
    ap (λ (e : ℕ). x / 2 ^ e) split ∙ higher x j (h - j) ∙ ap (λ (b : ℕ). b / 2 ^ (h - j)) same
    ∙ sym (ap (λ (e : ℕ). y / 2 ^ e) split ∙ higher y j (h - j))

-- so where they differ, they differ in all lower ones
pub differ_above : (x y j h : ℕ) → x / 2 ^ j ≡ y / 2 ^ j → (x / 2 ^ h ≡ y / 2 ^ h → ⊥) → h < j
differ_above x y j h same apart = by (cases_le j h)
  where
    cases_le : (a b : ℕ) → (a ≤ b) ⊎ (b < a)
    cases_le a b = grind arith

    by : (j ≤ h) ⊎ (h < j) → h < j
    by (inl le) = absurd (apart (same_higher x y j h le same))
    by (inr lt) = lt

-- numbers that differ and have the same half: the lesser one is the even one
pub even_less : (a b : ℕ) → a / 2 ≡ b / 2 → a < b → (a ≡ 2 * (a / 2)) × (b ≡ 2 * (a / 2) + 1)
even_less a b same less = (omega (arith, same, less), omega (arith, same, less))

-- a number of 64 bits has none above them
pub none_above : (x h : ℕ) → 64 ≤ h → x < 2 ^ 64 → x / 2 ^ h ≡ 0
none_above x h high small = same_higher x 0 64 h high (omega (arith, small)) ∙ zero_by h
  where
    zero_by : (h : ℕ) → 0 / 2 ^ h ≡ 0
    zero_by h = omega (arith, pow_pos h)

-- ---- the greatest bit in which two numbers differ

-- numbers are the same where no bit of them differs, and only there
none_differs : (x y : ℕ) → x ≡ y → bit_xor x y ≡ 0
none_differs x y same = subst (λ (z : ℕ). bit_xor x z ≡ 0) same (grind (arith, common_steps))

differ_none : (x y : ℕ) → bit_xor x y ≡ 0 → x ≡ y
differ_none x y none = by (ap (λ (z : ℕ). bit_xor z y) none)
  where
    by : bit_xor (bit_xor x y) y ≡ bit_xor 0 y → x ≡ y
    by e = grind (arith, common_steps, e)

-- by how many zeros stand before it in 64 bits
pub record Parts (x y zeros : ℕ) : Type 0 where
  pub few : zeros ≤ 63
  pub differ : x / 2 ^ (63 - zeros) ≡ y / 2 ^ (63 - zeros) → ⊥
  pub same : x / 2 ^ (63 - zeros + 1) ≡ y / 2 ^ (63 - zeros + 1)

pub parts : (x y : ℕ) → (x ≡ y → ⊥) → x < 2 ^ 64 → y < 2 ^ 64 → Parts x y (count_leading_zeros 64 (bit_xor x y))
parts x y apart x_fits y_fits = by (leading_top 64 (bit_xor x y) some (xor_lt 64 x y x_fits y_fits))
  where
    some : 0 < bit_xor x y
    some = omega (arith, λ (e : bit_xor x y ≡ 0). apart (differ_none x y e))

    less : (n j : ℕ) → n / 2 ^ j ≡ 0 → n < 2 ^ j
    less n j none = grind (arith, none, shr_split n j, pow_pos j)

    none_there : (n j : ℕ) → n < 2 ^ j → n / 2 ^ j ≡ 0
    none_there n j low = grind (arith, low, shr_split n j, pow_pos j)

    at : (j zeros : ℕ) → zeros + suc j ≡ 64 → 2 ^ j ≤ bit_xor x y → bit_xor x y < 2 ^ suc j → Parts x y zeros
    at j zeros count least most =
        let is : 63 - zeros ≡ j = omega (arith, count) in
        let next : 63 - zeros + 1 ≡ suc j = omega (arith, count) in
        record {
          few = omega (arith, count);
          differ = λ e.
              let e_j : x / 2 ^ j ≡ y / 2 ^ j = subst (λ (l : ℕ). x / 2 ^ l ≡ y / 2 ^ l) is e in
              omega (arith, least, less (bit_xor x y) j (xor_shr x y j ∙ none_differs (x / 2 ^ j) (y / 2 ^ j) e_j));
          same = subst (λ (l : ℕ). x / 2 ^ l ≡ y / 2 ^ l) (sym next)
              (differ_none (x / 2 ^ suc j) (y / 2 ^ suc j)
              (sym (xor_shr x y (suc j)) ∙ none_there (bit_xor x y) (suc j) most));
        }

    by : (j : ℕ) × (count_leading_zeros 64 (bit_xor x y) + suc j ≡ 64) × (2 ^ j ≤ bit_xor x y) × (bit_xor x y < 2 ^ suc j) →
        Parts x y (count_leading_zeros 64 (bit_xor x y))
    by (j, count, least, most) = at j (count_leading_zeros 64 (bit_xor x y)) count least most
