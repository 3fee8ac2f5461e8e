-- A trie of keys gets a tip more.
use Rattle.std.proofs.Common.{◌≡◌, ◌∙◌, ℕ, ◌+◌, ◌*◌, ◌/◌, ◌^◌, ◌<◌, List, ap, arith, refl, sym, subst, ◌⊎◌, inl, inr}
use Rattle.std.specs.Prelude.{Some}
use Rattle.dstm_model.specs.declared.value.Val.{Val}
use Rattle.dstm_structures.specs.Orders.{Below, Has, Holds, HoldsIn, Trie, fork, link_to, tip}
use Rattle.dstm_structures.specs.Tips.{Gains, TellsFork, Uses, key_told, words_at}
use Rattle.dstm_structures.specs.declared.cells.Rows.{Rows}
use Rattle.dstm_structures.proofs.Powers.{even_less, half, same_higher}
use Rattle.dstm_structures.proofs.Tries.{far_held, has_within, holds_on, near_held, not_free, prefix_at}

-- what there was, in other words, or what is new
or_new : {A B C : Type 0} → A ⊎ C → (A → B) → B ⊎ C
or_new (inl had) say = inl (say had)
or_new (inr new) say = inr new

-- a fork with these sides has got the tip
gains_by : {cells : Rows} {key at cell under bits number p j q low_link high_link : ℕ} {t : Trie} {before after : List Val}
    (low high : Trie) → TellsFork p j q low_link high_link (words_at cells after) → number ≡ 2 * p + 2 → p < cells.capacity →
    low_link ≡ link_to low → high_link ≡ link_to high →
    Holds cells.capacity (key_told cells after) (words_at cells after) low →
    Holds cells.capacity (key_told cells after) (words_at cells after) high → Below under bits (fork p j q low high) →
    Has at key (fork p j q low high) → ((a k : ℕ) → Has a k t → Has a k (fork p j q low high)) →
    ((a k : ℕ) → Has a k (fork p j q low high) → Has a k t ⊎ ((a ≡ at) × (k ≡ key))) →
    ((c : ℕ) → Uses c (fork p j q low high) → Uses c t ⊎ (c ≡ cell)) →
    ((c : ℕ) → Uses c t ⊎ (c ≡ cell) → Uses c (fork p j q low high)) →
    ((c : ℕ) → (Uses c t → ⊥) → (c ≡ cell → ⊥) → words_at cells after c ≡ words_at cells before c) →
    Gains cells key at cell under bits number t before after
gains_by {p = p} {j = j} {q = q} low high tells is inside low_is high_is near far below there kept no_more uses used stays =
    record {
      grown = fork p j q low high;
      is = is;
      held = (
        inside,
        tells.level_is,
        tells.prefix_is,
        tells.left_is ∙ low_is,
        tells.right_is ∙ high_is,
        near,
        far,
      );
      more = record { below = below; there = there; kept = kept; no_more = no_more; uses = uses; used = used };
      stays = stays;
    }

module _ (cells : Rows) (key at cell under bits number p j q link : ℕ) (l r : Trie) (before mid after : List Val)
    (held : HoldsIn cells.first cells.capacity before (fork p j q l r)) (b : Below under bits (fork p j q l r))
    (free : (words_at cells before cell).1 ≡ 0) (is : number ≡ 2 * p + 2)
    (same : (p : ℕ) → p < cells.capacity → key_told cells mid p ≡ key_told cells before p)
    (same_on : (p : ℕ) → p < cells.capacity → key_told cells after p ≡ key_told cells mid p)
    (others : (c : ℕ) → (c ≡ p → ⊥) → words_at cells after c ≡ words_at cells mid c) where
  abbrev t : Trie
  t = fork p j q l r

  fresh : (c : ℕ) → c ≡ cell → Uses c t → ⊥
  fresh c e used =
      not_free cells.capacity (key_told cells before) (words_at cells before) t held c
      (ap (λ (x : ℕ). (words_at cells before x).1) e ∙ free) used

  -- on its left side
  pub gains_left : Gains cells key at cell j (2 * q) link l before mid →
      TellsFork p j q link (link_to r) (words_at cells after) → Gains cells key at cell under bits number t before after
  gains_left g tells =
      gains_by g.grown r tells is held.0 g.is refl near far (b.0, b.1, g.below, b.3) (inl g.there) (λ a k has. kept a k has)
      (λ a k has. no_more a k has) (λ c used. uses c used) (λ c stood. used c stood)
      (λ c off away. others c (λ e. off (inl e)) ∙ g.stays c (λ used. off (inr (inl used))) away)
    where
      apart : 2 * q ≡ 2 * q + 1 → ⊥
      apart e = omega (arith, e)

      near : Holds cells.capacity (key_told cells after) (words_at cells after) g.grown
      near =
          near_held cells.capacity (key_told cells before) (key_told cells mid) (key_told cells after) (words_at cells before)
          (words_at cells mid) (words_at cells after) p j l (2 * q) (λ c. c ≡ cell) held.1 b.2 held.5 same_on others
          g.grown (λ c e is_p. fresh c e (inl is_p)) g.uses g.held

      far : Holds cells.capacity (key_told cells after) (words_at cells after) r
      far =
          far_held cells.capacity (key_told cells before) (key_told cells mid) (key_told cells after) (words_at cells before)
          (words_at cells mid) (words_at cells after) p j l (2 * q) (λ c. c ≡ cell) held.1 b.2 held.5 same_on others
          r (2 * q + 1) apart b.3 held.6 same (λ c e used. fresh c e (inr (inr used))) g.stays

      kept : (a k : ℕ) → Has a k t → Has a k (fork p j q g.grown r)
      kept a k (inl has) = inl (g.kept a k has)
      kept a k (inr has) = inr has

      no_more : (a k : ℕ) → Has a k (fork p j q g.grown r) → Has a k t ⊎ ((a ≡ at) × (k ≡ key))
      no_more a k (inl has) = or_new (g.no_more a k has) (λ had. inl had)
      no_more a k (inr has) = inl (inr has)

      uses : (c : ℕ) → Uses c (fork p j q g.grown r) → Uses c t ⊎ (c ≡ cell)
      uses c (inl e) = inl (inl e)
      uses c (inr (inl used)) = or_new (g.uses c used) (λ had. inr (inl had))
      uses c (inr (inr used)) = inl (inr (inr used))

      used : (c : ℕ) → Uses c t ⊎ (c ≡ cell) → Uses c (fork p j q g.grown r)
      used c (inl (inl e)) = inl e
      used c (inl (inr (inl stood))) = inr (inl (g.used c (inl stood)))
      used c (inl (inr (inr stood))) = inr (inr stood)
      used c (inr e) = inr (inl (g.used c (inr e)))

  -- on its right side
  pub gains_right : Gains cells key at cell j (2 * q + 1) link r before mid →
      TellsFork p j q (link_to l) link (words_at cells after) → Gains cells key at cell under bits number t before after
  gains_right g tells =
      gains_by l g.grown tells is held.0 refl g.is far near (b.0, b.1, b.2, g.below) (inr g.there) (λ a k has. kept a k has)
      (λ a k has. no_more a k has) (λ c used. uses c used) (λ c stood. used c stood)
      (λ c off away. others c (λ e. off (inl e)) ∙ g.stays c (λ used. off (inr (inr used))) away)
    where
      apart : 2 * q + 1 ≡ 2 * q → ⊥
      apart e = omega (arith, e)

      near : Holds cells.capacity (key_told cells after) (words_at cells after) g.grown
      near =
          near_held cells.capacity (key_told cells before) (key_told cells mid) (key_told cells after) (words_at cells before)
          (words_at cells mid) (words_at cells after) p j r (2 * q + 1) (λ c. c ≡ cell) held.1 b.3 held.6 same_on others
          g.grown (λ c e is_p. fresh c e (inl is_p)) g.uses g.held

      far : Holds cells.capacity (key_told cells after) (words_at cells after) l
      far =
          far_held cells.capacity (key_told cells before) (key_told cells mid) (key_told cells after) (words_at cells before)
          (words_at cells mid) (words_at cells after) p j r (2 * q + 1) (λ c. c ≡ cell) held.1 b.3 held.6 same_on others
          l (2 * q) apart b.2 held.5 same (λ c e used. fresh c e (inr (inl used))) g.stays

      kept : (a k : ℕ) → Has a k t → Has a k (fork p j q l g.grown)
      kept a k (inl has) = inl has
      kept a k (inr has) = inr (g.kept a k has)

      no_more : (a k : ℕ) → Has a k (fork p j q l g.grown) → Has a k t ⊎ ((a ≡ at) × (k ≡ key))
      no_more a k (inl has) = inl (inl has)
      no_more a k (inr has) = or_new (g.no_more a k has) (λ had. inr had)

      uses : (c : ℕ) → Uses c (fork p j q l g.grown) → Uses c t ⊎ (c ≡ cell)
      uses c (inl e) = inl (inl e)
      uses c (inr (inl used)) = inl (inr (inl used))
      uses c (inr (inr used)) = or_new (g.uses c used) (λ had. inr (inr had))

      used : (c : ℕ) → Uses c t ⊎ (c ≡ cell) → Uses c (fork p j q l g.grown)
      used c (inl (inl e)) = inl e
      used c (inl (inr (inl stood))) = inr (inl stood)
      used c (inl (inr (inr stood))) = inr (inr (g.used c (inl stood)))
      used c (inr e) = inr (inr (g.used c (inr e)))

-- A new fork over a tip and a trie whose keys differ from it first at a level.
module _ (cells : Rows) (key at cell under bits h ours theirs : ℕ) (t : Trie) (before after : List Val)
    (held : HoldsIn cells.first cells.capacity before t) (b : Below h theirs t) (inside : at < cells.capacity)
    (within : cell < cells.capacity) (told_key : key_told cells before at ≡ Some key)
    (free : (words_at cells before cell).1 ≡ 0) (less : h < under) (in_bits : key / 2 ^ under ≡ bits)
    (ours_is : key / 2 ^ h ≡ ours) (alike : ours / 2 ≡ theirs / 2)
    (same : (p : ℕ) → p < cells.capacity → key_told cells after p ≡ key_told cells before p)
    (others : (c : ℕ) → (c ≡ cell → ⊥) → words_at cells after c ≡ words_at cells before c) where
  still : Holds cells.capacity (key_told cells after) (words_at cells after) t
  still =
      holds_on cells.capacity (key_told cells before) (words_at cells before) (key_told cells after) (words_at cells after) t
      (λ a k has. same a (has_within cells.capacity (key_told cells before) (words_at cells before) t held a k has))
      (λ c used. others c (λ e. not_free cells.capacity (key_told cells before) (words_at cells before) t held c
      (ap (λ (x : ℕ). (words_at cells before x).1) e ∙ free) used)) held

  stands : ours / 2 * 2 ^ (h + 1) / 2 ^ under ≡ bits
  stands =
      same_higher (ours / 2 * 2 ^ (h + 1)) key (h + 1) under (omega (arith, less))
      (prefix_at (ours / 2) h ∙ sym (half key h ∙ ap (λ (x : ℕ). x / 2) ours_is)) ∙ in_bits

  pub gains_before : ours < theirs → TellsFork cell h (ours / 2) (2 * at + 1) (link_to t) (words_at cells after) →
      Gains cells key at cell under bits (2 * cell + 2) t before after
  gains_before first tells =
      let parts = even_less ours theirs alike first in
      gains_by (tip at key) t tells refl within refl refl (inside, same at inside ∙ told_key) still
      (less, stands, ours_is ∙ parts.0, subst (λ (x : ℕ). Below h x t) parts.1 b) (inl (refl, refl)) (λ p k has. inr has)
      (λ p k has. no_more p k has) (λ c used. uses c used) (λ c stood. used c stood) (λ c off away. others c away)
    where
      no_more : (p k : ℕ) → Has p k (fork cell h (ours / 2) (tip at key) t) → Has p k t ⊎ ((p ≡ at) × (k ≡ key))
      no_more p k (inl has) = inr (sym has.0, sym has.1)
      no_more p k (inr has) = inl has

      uses : (c : ℕ) → Uses c (fork cell h (ours / 2) (tip at key) t) → Uses c t ⊎ (c ≡ cell)
      uses c (inl e) = inr e
      uses c (inr (inl used)) = absurd used
      uses c (inr (inr used)) = inl used

      used : (c : ℕ) → Uses c t ⊎ (c ≡ cell) → Uses c (fork cell h (ours / 2) (tip at key) t)
      used c (inl stood) = inr (inr stood)
      used c (inr e) = inl e

  pub gains_behind : theirs < ours → TellsFork cell h (ours / 2) (link_to t) (2 * at + 1) (words_at cells after) →
      Gains cells key at cell under bits (2 * cell + 2) t before after
  gains_behind first tells =
      let parts = even_less theirs ours (sym alike) first in
      let low = subst (λ (x : ℕ). Below h x t) (parts.0 ∙ ap (λ (x : ℕ). 2 * x) (sym alike)) b in
      let high = ours_is ∙ parts.1 ∙ ap (λ (x : ℕ). 2 * x + 1) (sym alike) in
      gains_by t (tip at key) tells refl within refl refl still (inside, same at inside ∙ told_key) (less, stands, low, high)
      (inr (refl, refl)) (λ p k has. inl has) (λ p k has. no_more p k has) (λ c used. uses c used) (λ c stood. used c stood)
      (λ c off away. others c away)
    where
      no_more : (p k : ℕ) → Has p k (fork cell h (ours / 2) t (tip at key)) → Has p k t ⊎ ((p ≡ at) × (k ≡ key))
      no_more p k (inl has) = inl has
      no_more p k (inr has) = inr (sym has.0, sym has.1)

      uses : (c : ℕ) → Uses c (fork cell h (ours / 2) t (tip at key)) → Uses c t ⊎ (c ≡ cell)
      uses c (inl e) = inr e
      uses c (inr (inl used)) = inl used
      uses c (inr (inr used)) = absurd used

      used : (c : ℕ) → Uses c t ⊎ (c ≡ cell) → Uses c (fork cell h (ours / 2) t (tip at key))
      used c (inl stood) = inr (inl stood)
      used c (inr e) = inl e
