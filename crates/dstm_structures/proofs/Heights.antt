-- How many forks stand on a way down a trie.
use Rattle.std.proofs.Common.{◌≡◌, ℕ, ◌+◌, ◌*◌, ◌/◌, ◌^◌, ◌<◌, ◌≤◌, ◌⊎◌, arith, inl, inr, refl}
use Rattle.std.specs.Prelude.{max}
use Rattle.std.proofs.Math.Nat.{div-eq_of_lt}
use Rattle.std.proofs.Math.Pow.{pow_mono}
use Rattle.dstm_structures.specs.Orders.{Below, Has, Trie, fork, height, tip}
use Rattle.dstm_structures.proofs.Orders.{below-key}

one_more : (a b j under : ℕ) → a ≤ j → b ≤ j → j < under → max a b + 1 ≤ under
one_more a b j under left right less = grind (arith, left, right, less)

-- no more than levels
pub below_levels : (under bits : ℕ) (t : Trie) → Below under bits t → height t ≤ under
below_levels under bits (tip p k) b = omega arith
below_levels under bits (fork p j q l r) b =
    one_more (height l) (height r) j under (below_levels j (2 * q) l b.2) (below_levels j (2 * q + 1) r b.3) b.0

-- a trie has a key
some_key : (t : Trie) → (at : ℕ) × (key : ℕ) × Has at key t
some_key (tip p k) = (p, k, (refl, refl))
some_key (fork p j q l r) = let (at, key, has) = some_key l in (at, key, inl has)

-- and no more than its keys have bits
pub below_bits : (under bits b : ℕ) (t : Trie) → Below under bits t → ((at key : ℕ) → Has at key t → key < 2 ^ b) →
    height t ≤ b
below_bits under bits b (tip p k) below few = omega arith
below_bits under bits b (fork p j q l r) below few =
    let (at, key, has) = some_key r in
    one_more (height l) (height r) j b (below_levels j (2 * q) l below.2) (below_levels j (2 * q + 1) r below.3)
    (level_below key j q b (below-key j (2 * q + 1) r below.3 at key has) (few at key (inr has)))
  where
    level_below : (k j q b : ℕ) → k / 2 ^ j ≡ 2 * q + 1 → k < 2 ^ b → j < b
    level_below k j q b odd small = by (either j b)
      where
        either : (x y : ℕ) → (x < y) ⊎ (y ≤ x)
        either x y = grind arith

        by : (j < b) ⊎ (b ≤ j) → j < b
        by (inl less) = less
        by (inr more) = absurd (none (div-eq_of_lt (lt-of more)))
          where
            none : k / 2 ^ j ≡ 0 → ⊥
            none zero = omega (arith, zero, odd)

            lt-of : b ≤ j → k < 2 ^ j
            lt-of le = omega (arith, small, pow_mono le)
