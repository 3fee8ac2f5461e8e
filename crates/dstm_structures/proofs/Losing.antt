-- A trie of keys gets a tip less.
use Rattle.std.proofs.Common.{◌≡◌, ◌∙◌, ℕ, ◌+◌, ◌*◌, ◌/◌, ◌^◌, ◌<◌, List, ap, arith, refl, sym, ◌⊎◌, inl, inr}
use Rattle.dstm_model.specs.declared.value.Val.{Val}
use Rattle.dstm_structures.specs.Orders.{Below, Has, Holds, HoldsIn, Trie, fork, level_in, link_to, tip}
use Rattle.dstm_structures.specs.Tips.{LeavesNone, LeavesRest, Loses, TellsFork, Uses, key_told, words_at}
use Rattle.dstm_structures.specs.declared.cells.Rows.{Rows}
use Rattle.dstm_structures.proofs.Orders.{below-key}
use Rattle.dstm_structures.proofs.Tries.{far_held, half_even, half_odd, near_held, not_above, widen}

-- keys with other bits differ
parted : (j y z a k : ℕ) → (y ≡ z → ⊥) → a / 2 ^ j ≡ y → k / 2 ^ j ≡ z → k ≡ a → ⊥
parted j y z a k apart one other same =
    apart (sym one ∙ sym (ap (λ (x : ℕ). x / 2 ^ j) same) ∙ other)

-- a trie that is the tip
pub loses_tip : (cells : Rows) (key at under bits p k : ℕ) (before after : List Val) → Has at key (tip p k) → after ≡ before →
    Loses cells key at under bits 0 (tip p k) before after
loses_tip cells key at under bits p k before after has same = record {
  left = inl (record { is = refl; alone = λ a h there. (sym there.0 ∙ has.0, sym there.1 ∙ has.1); bare = λ c used. used });
  stays = λ c off. ap (λ (xs : List Val). words_at cells xs c) same;
}

module _ (cells : Rows) (key at under bits number p j q link : ℕ) (l r : Trie) (before mid after : List Val)
    (held : HoldsIn cells.first cells.capacity before (fork p j q l r)) (b : Below under bits (fork p j q l r))
    (is : number ≡ 2 * p + 2)
    (same : (p : ℕ) → p < cells.capacity → key_told cells mid p ≡ key_told cells before p)
    (same_on : (p : ℕ) → p < cells.capacity → key_told cells after p ≡ key_told cells mid p)
    (others : (c : ℕ) → (c ≡ p → ⊥) → words_at cells after c ≡ words_at cells mid c) where
  abbrev t : Trie
  t = fork p j q l r

  even_odd : 2 * q ≡ 2 * q + 1 → ⊥
  even_odd e = omega (arith, e)

  odd_even : 2 * q + 1 ≡ 2 * q → ⊥
  odd_even e = omega (arith, e)

  -- a trie that no fork stands below this one's level does not stand on this one's cell
  not_here : (y : ℕ) (side : Trie) → Below j y side →
      Holds cells.capacity (key_told cells before) (words_at cells before) side → (c : ℕ) → Uses c side → c ≡ p → ⊥
  not_here y side below holds c used here =
      let e : level_in (words_at cells before c).1 ≡ j = ap (λ (x : ℕ). level_in (words_at cells before x).1) here ∙ held.1 in
      not_above cells.capacity (key_told cells before) (words_at cells before) j y side below holds c (omega (arith, e)) used

  -- a cell that is free is so still where this one's was set
  stays_free : (c : ℕ) → (c ≡ p → ⊥) → (words_at cells mid c).1 ≡ 0 → (words_at cells after c).1 ≡ 0
  stays_free c apart free = ap (λ (w : ℕ × ℕ). w.1) (others c apart) ∙ free

  -- a side stays where the other one was set
  right_stays : ((c : ℕ) → (Uses c l → ⊥) → words_at cells mid c ≡ words_at cells before c) →
      Holds cells.capacity (key_told cells after) (words_at cells after) r
  right_stays stays =
      far_held cells.capacity (key_told cells before) (key_told cells mid) (key_told cells after) (words_at cells before)
      (words_at cells mid) (words_at cells after) p j l (2 * q) (λ c. ⊥) held.1 b.2 held.5 same_on others
      r (2 * q + 1) even_odd b.3 held.6 same (λ c e used. e) (λ c off new. stays c off)

  left_stays : ((c : ℕ) → (Uses c r → ⊥) → words_at cells mid c ≡ words_at cells before c) →
      Holds cells.capacity (key_told cells after) (words_at cells after) l
  left_stays stays =
      far_held cells.capacity (key_told cells before) (key_told cells mid) (key_told cells after) (words_at cells before)
      (words_at cells mid) (words_at cells after) p j r (2 * q + 1) (λ c. ⊥) held.1 b.3 held.6 same_on others
      l (2 * q) odd_even b.2 held.5 same (λ c e used. e) (λ c off new. stays c off)

  -- and has other keys
  right_apart : key / 2 ^ j ≡ 2 * q → (a k : ℕ) → Has a k r → Has a k t × (k ≡ key → ⊥)
  right_apart even a k has =
      (inr has, parted j (2 * q) (2 * q + 1) key k even_odd even (below-key j (2 * q + 1) r b.3 a k has))

  left_apart : key / 2 ^ j ≡ 2 * q + 1 → (a k : ℕ) → Has a k l → Has a k t × (k ≡ key → ⊥)
  left_apart odd a k has =
      (inl has, parted j (2 * q + 1) (2 * q) key k odd_even odd (below-key j (2 * q) l b.2 a k has))

  -- The left side keeps other tips.
  module _ (even : key / 2 ^ j ≡ 2 * q) (g : LeavesRest cells key j (2 * q) link l mid)
      (stays : (c : ℕ) → (Uses c l → ⊥) → words_at cells mid c ≡ words_at cells before c)
      (tells : TellsFork p j q link (link_to r) (words_at cells after)) where
    near_left : Holds cells.capacity (key_told cells after) (words_at cells after) g.rest
    near_left =
        near_held cells.capacity (key_told cells before) (key_told cells mid) (key_told cells after) (words_at cells before)
        (words_at cells mid) (words_at cells after) p j l (2 * q) (λ c. ⊥) held.1 b.2 held.5 same_on others
        g.rest (λ c e is_p. e) (λ c used. inl (g.uses c used)) g.held

    kept_left : (a k : ℕ) → Has a k t → (k ≡ key → ⊥) → Has a k (fork p j q g.rest r)
    kept_left a k (inl has) other = inl (g.kept a k has other)
    kept_left a k (inr has) other = inr has

    no_more_left : (a k : ℕ) → Has a k (fork p j q g.rest r) → Has a k t × (k ≡ key → ⊥)
    no_more_left a k (inl has) = let had = g.no_more a k has in (inl had.0, had.1)
    no_more_left a k (inr has) = right_apart even a k has

    uses_left : (c : ℕ) → Uses c (fork p j q g.rest r) → Uses c t
    uses_left c (inl e) = inl e
    uses_left c (inr (inl used)) = inr (inl (g.uses c used))
    uses_left c (inr (inr used)) = inr (inr used)

    freed_left : (c : ℕ) → Uses c t → ((words_at cells after c).1 ≡ 0) ⊎ Uses c (fork p j q g.rest r)
    freed_left c (inl e) = inr (inl e)
    freed_left c (inr (inl used)) = by (g.freed c used)
      where
        by : ((words_at cells mid c).1 ≡ 0) ⊎ Uses c g.rest → ((words_at cells after c).1 ≡ 0) ⊎ Uses c (fork p j q g.rest r)
        by (inl free) = inl (stays_free c (λ e. not_here (2 * q) l b.2 held.5 c used e) free)
        by (inr stood) = inr (inr (inl stood))
    freed_left c (inr (inr used)) = inr (inr (inr used))

    pub loses_left : Loses cells key at under bits number t before after
    loses_left = record {
      left = inr (record {
        rest = fork p j q g.rest r;
        is = is;
        held = (held.0, tells.level_is, tells.prefix_is, tells.left_is ∙ g.is, tells.right_is, near_left, right_stays stays);
        less = record { below = (b.0, b.1, g.below, b.3); kept = kept_left; no_more = no_more_left; uses = uses_left };
        freed = freed_left;
      });
      stays = λ c off. others c (λ e. off (inl e)) ∙ stays c (λ used. off (inr (inl used)));
    }

  -- The right side keeps other tips.
  module _ (odd : key / 2 ^ j ≡ 2 * q + 1) (g : LeavesRest cells key j (2 * q + 1) link r mid)
      (stays : (c : ℕ) → (Uses c r → ⊥) → words_at cells mid c ≡ words_at cells before c)
      (tells : TellsFork p j q (link_to l) link (words_at cells after)) where
    near_right : Holds cells.capacity (key_told cells after) (words_at cells after) g.rest
    near_right =
        near_held cells.capacity (key_told cells before) (key_told cells mid) (key_told cells after) (words_at cells before)
        (words_at cells mid) (words_at cells after) p j r (2 * q + 1) (λ c. ⊥) held.1 b.3 held.6 same_on others
        g.rest (λ c e is_p. e) (λ c used. inl (g.uses c used)) g.held

    kept_right : (a k : ℕ) → Has a k t → (k ≡ key → ⊥) → Has a k (fork p j q l g.rest)
    kept_right a k (inl has) other = inl has
    kept_right a k (inr has) other = inr (g.kept a k has other)

    no_more_right : (a k : ℕ) → Has a k (fork p j q l g.rest) → Has a k t × (k ≡ key → ⊥)
    no_more_right a k (inl has) = left_apart odd a k has
    no_more_right a k (inr has) = let had = g.no_more a k has in (inr had.0, had.1)

    uses_right : (c : ℕ) → Uses c (fork p j q l g.rest) → Uses c t
    uses_right c (inl e) = inl e
    uses_right c (inr (inl used)) = inr (inl used)
    uses_right c (inr (inr used)) = inr (inr (g.uses c used))

    freed_right : (c : ℕ) → Uses c t → ((words_at cells after c).1 ≡ 0) ⊎ Uses c (fork p j q l g.rest)
    freed_right c (inl e) = inr (inl e)
    freed_right c (inr (inl used)) = inr (inr (inl used))
    freed_right c (inr (inr used)) = by (g.freed c used)
      where
        by : ((words_at cells mid c).1 ≡ 0) ⊎ Uses c g.rest → ((words_at cells after c).1 ≡ 0) ⊎ Uses c (fork p j q l g.rest)
        by (inl free) = inl (stays_free c (λ e. not_here (2 * q + 1) r b.3 held.6 c used e) free)
        by (inr stood) = inr (inr (inr stood))

    pub loses_right : Loses cells key at under bits number t before after
    loses_right = record {
      left = inr (record {
        rest = fork p j q l g.rest;
        is = is;
        held = (held.0, tells.level_is, tells.prefix_is, tells.left_is, tells.right_is ∙ g.is, left_stays stays, near_right);
        less = record { below = (b.0, b.1, b.2, g.below); kept = kept_right; no_more = no_more_right; uses = uses_right };
        freed = freed_right;
      });
      stays = λ c off. others c (λ e. off (inl e)) ∙ stays c (λ used. off (inr (inr used)));
    }

  -- A side has no other tip: the other side stays, and the fork's cell is free.
  leaves_side : (side : Trie) (side_bits : ℕ) → side_bits / 2 ≡ q → Below j side_bits side →
      Holds cells.capacity (key_told cells after) (words_at cells after) side →
      ((a k : ℕ) → Has a k t → (k ≡ key → ⊥) → Has a k side) → ((a k : ℕ) → Has a k side → Has a k t × (k ≡ key → ⊥)) →
      ((c : ℕ) → Uses c side → Uses c t) → ((c : ℕ) → Uses c t → ((words_at cells after c).1 ≡ 0) ⊎ Uses c side) →
      LeavesRest cells key under bits (link_to side) t after
  leaves_side side side_bits half_is below stands kept no_more uses freed = record {
    rest = side;
    is = refl;
    held = stands;
    less = record {
      below = widen j q under bits side_bits b.0 b.1 half_is side below;
      kept = kept;
      no_more = no_more;
      uses = uses;
    };
    freed = freed;
  }

  module _ (g : LeavesNone cells key at link l) (even : key / 2 ^ j ≡ 2 * q)
      (stays : (c : ℕ) → (Uses c l → ⊥) → words_at cells mid c ≡ words_at cells before c)
      (free : (words_at cells after p).1 ≡ 0) where
    kept_on_right : (a k : ℕ) → Has a k t → (k ≡ key → ⊥) → Has a k r
    kept_on_right a k (inl has) other = absurd (other (g.alone a k has).1)
    kept_on_right a k (inr has) other = has

    freed_on_right : (c : ℕ) → Uses c t → ((words_at cells after c).1 ≡ 0) ⊎ Uses c r
    freed_on_right c (inl e) = inl (ap (λ (x : ℕ). (words_at cells after x).1) e ∙ free)
    freed_on_right c (inr (inl used)) = absurd (g.bare c used)
    freed_on_right c (inr (inr used)) = inr used

    pub loses_all_left : Loses cells key at under bits (link_to r) t before after
    loses_all_left = record {
      left = inr (leaves_side r (2 * q + 1) (half_odd q) b.3 (right_stays stays) kept_on_right (right_apart even)
          (λ c used. inr (inr used)) freed_on_right);
      stays = λ c off. others c (λ e. off (inl e)) ∙ stays c (λ used. off (inr (inl used)));
    }

  module _ (g : LeavesNone cells key at link r) (odd : key / 2 ^ j ≡ 2 * q + 1)
      (stays : (c : ℕ) → (Uses c r → ⊥) → words_at cells mid c ≡ words_at cells before c)
      (free : (words_at cells after p).1 ≡ 0) where
    kept_on_left : (a k : ℕ) → Has a k t → (k ≡ key → ⊥) → Has a k l
    kept_on_left a k (inl has) other = has
    kept_on_left a k (inr has) other = absurd (other (g.alone a k has).1)

    freed_on_left : (c : ℕ) → Uses c t → ((words_at cells after c).1 ≡ 0) ⊎ Uses c l
    freed_on_left c (inl e) = inl (ap (λ (x : ℕ). (words_at cells after x).1) e ∙ free)
    freed_on_left c (inr (inl used)) = inr used
    freed_on_left c (inr (inr used)) = absurd (g.bare c used)

    pub loses_all_right : Loses cells key at under bits (link_to l) t before after
    loses_all_right = record {
      left = inr (leaves_side l (2 * q) (half_even q) b.2 (left_stays stays) kept_on_left (left_apart odd)
          (λ c used. inr (inl used)) freed_on_left);
      stays = λ c off. others c (λ e. off (inl e)) ∙ stays c (λ used. off (inr (inr used)));
    }
