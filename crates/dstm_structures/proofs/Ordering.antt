-- What the searches in a trie do, by what they read.
use Rattle.std.proofs.Common.{◌≡◌, ◌∙◌, ℕ, ◌+◌, ◌*◌, ◌/◌, ◌^◌, ◌<◌, ◌≤◌, Bool, true, false, List, ap, arith, cond, refl, subst, sym, ltb-true, nat_lt}
use Rattle.std.specs.Prelude.{Option, None, Some}
use Rattle.dstm_model.specs.declared.value.Val.{Val}
use Rattle.dstm_model.specs.Map.{value_at}
use Rattle.dstm_structures.specs.Maps.{key_of, keys_in}
use Rattle.dstm_structures.specs.Orders.{Trie, tip, fork, Below, Ends, Finds, FindsAll, Follows, HoldsIn, IsEdge, IsNext, IsPrevious, Precedes, forks_in, is_above, is_below, left_in, level_in, link_in, link_to, low_of, right_in, root_in}
use Rattle.dstm_structures.specs.Tips.{TellsFork}
use Rattle.dstm_structures.specs.declared.cells.Rows.{Rows}
use Rattle.dstm_structures.specs.declared.order.Link.{Link}
use Rattle.dstm_structures.specs.declared.order.Link.TheVariants.{Nothing, Tip, Fork}
use Rattle.dstm_structures.proofs.Doing.{Reads}
use Rattle.dstm_structures.proofs.Orders.{edge-left, edge-right, fork-not-nothing, fork-same, leads, leads-to, next-all, next-later, next-left, next-none, next-right, previous-all, previous-earlier, previous-left, previous-none, previous-right, tip-not-fork, tip-not-nothing, tip-same}

module _ (cells : Rows) where
  abbrev n : ℕ
  n = cells.capacity

  abbrev first : ℕ
  first = cells.first

  -- where a link leads to that a trie has
  pub led : (link : ℕ) (to : Link) (values : List Val) (t : Trie) → to ≡ link_in n link → link ≡ link_to t →
      HoldsIn first n values t → to ≡ leads t
  led link to values t is at held =
      is ∙ ap (link_in n) at ∙ leads-to n (keys_in first values) (forks_in first n values) t held

  -- a trie below a fork whose cell told this
  pub record IsFork (at level prefix left right : ℕ) (values : List Val) (t : Trie) : Type 0 where
    pub lesser : Trie
    pub greater : Trie
    pub is : t ≡ fork at level prefix lesser greater
    pub left_is : left ≡ link_to lesser
    pub right_is : right ≡ link_to greater
    pub lesser_held : HoldsIn first n values lesser
    pub greater_held : HoldsIn first n values greater

  pub fork-is : (at level prefix left right : ℕ) (before : List Val) (t : Trie) → Fork at ≡ leads t →
      HoldsIn first n before t →
      TellsFork at level prefix left right (forks_in first n before) → IsFork at level prefix left right before t
  fork-is at level prefix left right before (tip p k) to held f = absurd (tip-not-fork p at (sym to))
  fork-is at level prefix left right before (fork p j q l r) to held f =
      let here : p ≡ at = sym (fork-same at p to) in
      let told : forks_in first n before p ≡ forks_in first n before at = ap (forks_in first n before) here in
      record {
        lesser = l;
        greater = r;
        is = ap (λ (x : ℕ). fork x j q l r) here
            ∙ ap (λ (x : ℕ). fork at x q l r)
            (sym held.1 ∙ ap (λ (x : ℕ × ℕ). level_in x.1) told ∙ f.level_is)
            ∙ ap (λ (x : ℕ). fork at level x l r) (sym held.2 ∙ ap (λ (x : ℕ × ℕ). x.0) told ∙ f.prefix_is);
        left_is = sym f.left_is ∙ sym (ap (λ (x : ℕ × ℕ). left_in x.1) told) ∙ held.3;
        right_is = sym f.right_is ∙ sym (ap (λ (x : ℕ × ℕ). right_in x.1) told) ∙ held.4;
        lesser_held = held.5;
        greater_held = held.6;
      }

  -- it is not below a level that is not above its own
  pub fork-not-below : {at level prefix left right : ℕ} {values : List Val} {t : Trie} (under bits : ℕ) →
      IsFork at level prefix left right values t → Below under bits t → under ≤ level → ⊥
  fork-not-below {at} {level} {prefix} under bits f below high =
      let b : Below under bits (fork at level prefix f.lesser f.greater) = subst (Below under bits) f.is below in
      omega (arith, b.0, high)

  -- where nothing was set, a trie is still held
  held-same : (before after : List Val) (t : Trie) → after ≡ before → HoldsIn first n before t → HoldsIn first n after t
  held-same before after t same held = subst (λ (v : List Val). HoldsIn first n v t) (sym same) held

  -- ---- the search below a link

  pub finds-nothing : (finds : Option ℕ → Trie → Type 0) (link under : ℕ) (values : List Val) → Nothing ≡ link_in n link →
      Finds cells finds link under None values values
  finds-nothing finds link under values is = record {
    is = λ bits t at held below. absurd (never t (led link Nothing values t is at held));
    nowhere = λ zero. refl;
    same = refl;
  }
    where
      never : (t : Trie) → Nothing ≡ leads t → ⊥
      never (tip p k) e = tip-not-nothing p e
      never (fork p j q l r) e = fork-not-nothing p e

  pub ends-tip : (greatest : Bool) (link under at : ℕ) (values : List Val) → Tip at ≡ link_in n link →
      Ends cells greatest link under (Some at) values values
  ends-tip greatest link under at values is = record {
    is = λ bits t to held below. by greatest t (led link (Tip at) values t is to held);
    nowhere = λ zero. absurd (tip-not-nothing at (sym (is ∙ ap (link_in n) zero)));
    same = refl;
  }
    where
      by : (side : Bool) (t : Trie) → Tip at ≡ leads t → IsEdge side (Some at) t
      by side (fork p j q l r) e = absurd (tip-not-fork at p e)
      by false (tip p k) e = (k, (sym (tip-same at p e), refl), λ a m h. omega (arith, h.1))
      by true (tip p k) e = (k, (sym (tip-same at p e), refl), λ a m h. omega (arith, h.1))

  module _ (link under at level prefix left right : ℕ) (to : Fork at ≡ link_in n link) where
    somewhere : link ≡ 0 → ⊥
    somewhere zero = fork-not-nothing at (sym (to ∙ ap (link_in n) zero))

    -- what a trie is to which the link leads
    forked : (before : List Val) → TellsFork at level prefix left right (forks_in first n before) → (t : Trie) →
        link ≡ link_to t → HoldsIn first n before t → IsFork at level prefix left right before t
    forked before f t link_is held =
        fork-is at level prefix left right before t (led link (Fork at) before t to link_is held) held f

    -- no trie has forks above the level below which its forks are
    pub finds-stopped : (finds : Option ℕ → Trie → Type 0) (before after : List Val) → under ≤ level →
        TellsFork at level prefix left right (forks_in first n before) → after ≡ before →
        Finds cells finds link under None before after
    finds-stopped finds before after high f same = record {
      is = λ bits t link_is held below. absurd (fork-not-below under bits (forked before f t link_is held) below high);
      nowhere = λ zero. absurd (somewhere zero);
      same = same;
    }

    -- what is so by the two tries below the fork
    fork-finds : (finds : Option ℕ → Trie → Type 0) (answer : Option ℕ) (before after : List Val) →
        TellsFork at level prefix left right (forks_in first n before) → after ≡ before →
        ((bits : ℕ) (l r : Trie) → Below under bits (fork at level prefix l r) → left ≡ link_to l → right ≡ link_to r →
        HoldsIn first n before l → HoldsIn first n before r → finds answer (fork at level prefix l r)) →
        Finds cells finds link under answer before after
    fork-finds finds answer before after f same by = record {
      is = λ bits t link_is held below.
          let k = forked before f t link_is held in
          subst (finds answer) (sym k.is)
          (by bits k.lesser k.greater (subst (Below under bits) k.is below) k.left_is k.right_is k.lesser_held k.greater_held);
      nowhere = λ zero. absurd (somewhere zero);
      same = same;
    }

    pub ends-fork : (greatest : Bool) (side : ℕ) (answer : Option ℕ) (before mid after : List Val) →
        side ≡ cond greatest right left → TellsFork at level prefix left right (forks_in first n before) → mid ≡ before →
        Ends cells greatest side level answer mid after → Ends cells greatest link under answer before after
    ends-fork false side answer before mid after side_is f same e =
        fork-finds (IsEdge false) answer before after f (e.same ∙ same)
        (λ bits l r b left_is right_is l_held r_held. edge-left under bits at level prefix l r b answer
        (e.is (2 * prefix) l (side_is ∙ left_is) (held-same before mid l same l_held) b.2))
    ends-fork true side answer before mid after side_is f same e =
        fork-finds (IsEdge true) answer before after f (e.same ∙ same)
        (λ bits l r b left_is right_is l_held r_held. edge-right under bits at level prefix l r b answer
        (e.is (2 * prefix + 1) r (side_is ∙ right_is) (held-same before mid r same r_held) b.3))

    -- ---- the search for the least key above another one

    module _ (key part : ℕ) (part_is : part ≡ key / 2 ^ level) (before mid : List Val)
        (f : TellsFork at level prefix left right (forks_in first n before)) (same : mid ≡ before) where
      pub follows-all : (answer : Option ℕ) (after : List Val) → part / 2 < prefix →
          Ends cells false left level answer mid after → Follows cells key link under answer before after
      follows-all answer after less e =
          fork-finds (IsNext key) answer before after f (e.same ∙ same)
          (λ bits l r b left_is right_is l_held r_held. next-all under bits at level prefix l r b key part part_is answer less
          (e.is (2 * prefix) l left_is (held-same before mid l same l_held) b.2))

      pub follows-none : prefix < part / 2 → Follows cells key link under None before mid
      follows-none more =
          fork-finds (IsNext key) None before mid f same
          (λ bits l r b left_is right_is l_held r_held. next-none under bits at level prefix l r b key part part_is more)

      pub follows-right : (answer : Option ℕ) (after : List Val) → part ≡ 2 * prefix + 1 →
          Follows cells key right level answer mid after → Follows cells key link under answer before after
      follows-right answer after is e =
          fork-finds (IsNext key) answer before after f (e.same ∙ same)
          (λ bits l r b left_is right_is l_held r_held. next-right under bits at level prefix l r b key part part_is answer is
          (e.is (2 * prefix + 1) r right_is (held-same before mid r same r_held) b.3))

      pub follows-left : (found : ℕ) (after : List Val) → part ≡ 2 * prefix →
          Follows cells key left level (Some found) mid after → Follows cells key link under (Some found) before after
      follows-left found after is e =
          fork-finds (IsNext key) (Some found) before after f (e.same ∙ same)
          (λ bits l r b left_is right_is l_held r_held. next-left under bits at level prefix l r b key part part_is found is
          (e.is (2 * prefix) l left_is (held-same before mid l same l_held) b.2))

      pub follows-later : (answer : Option ℕ) (near after : List Val) → part ≡ 2 * prefix →
          Follows cells key left level None mid near → Ends cells false right level answer near after →
          Follows cells key link under answer before after
      follows-later answer near after is e g =
          fork-finds (IsNext key) answer before after f (g.same ∙ e.same ∙ same)
          (λ bits l r b left_is right_is l_held r_held. next-later under bits at level prefix l r b key part part_is answer is
          (e.is (2 * prefix) l left_is (held-same before mid l same l_held) b.2)
          (g.is (2 * prefix + 1) r right_is (held-same before near r (e.same ∙ same) r_held) b.3))

    -- ---- the search for the greatest key below another one

    module _ (key part : ℕ) (part_is : part ≡ key / 2 ^ level) (before mid : List Val)
        (f : TellsFork at level prefix left right (forks_in first n before)) (same : mid ≡ before) where
      pub precedes-all : (answer : Option ℕ) (after : List Val) → prefix < part / 2 →
          Ends cells true right level answer mid after → Precedes cells key link under answer before after
      precedes-all answer after more e =
          fork-finds (IsPrevious key) answer before after f (e.same ∙ same)
          (λ bits l r b left_is right_is l_held r_held. previous-all under bits at level prefix l r b key part part_is answer
          more (e.is (2 * prefix + 1) r right_is (held-same before mid r same r_held) b.3))

      pub precedes-none : part / 2 < prefix → Precedes cells key link under None before mid
      precedes-none less =
          fork-finds (IsPrevious key) None before mid f same
          (λ bits l r b left_is right_is l_held r_held. previous-none under bits at level prefix l r b key part part_is less)

      pub precedes-left : (answer : Option ℕ) (after : List Val) → part ≡ 2 * prefix →
          Precedes cells key left level answer mid after → Precedes cells key link under answer before after
      precedes-left answer after is e =
          fork-finds (IsPrevious key) answer before after f (e.same ∙ same)
          (λ bits l r b left_is right_is l_held r_held. previous-left under bits at level prefix l r b key part part_is answer
          is (e.is (2 * prefix) l left_is (held-same before mid l same l_held) b.2))

      pub precedes-right : (found : ℕ) (after : List Val) → part ≡ 2 * prefix + 1 →
          Precedes cells key right level (Some found) mid after → Precedes cells key link under (Some found) before after
      precedes-right found after is e =
          fork-finds (IsPrevious key) (Some found) before after f (e.same ∙ same)
          (λ bits l r b left_is right_is l_held r_held. previous-right under bits at level prefix l r b key part part_is found
          is (e.is (2 * prefix + 1) r right_is (held-same before mid r same r_held) b.3))

      pub precedes-earlier : (answer : Option ℕ) (near after : List Val) → part ≡ 2 * prefix + 1 →
          Precedes cells key right level None mid near → Ends cells true left level answer near after →
          Precedes cells key link under answer before after
      precedes-earlier answer near after is e g =
          fork-finds (IsPrevious key) answer before after f (g.same ∙ e.same ∙ same)
          (λ bits l r b left_is right_is l_held r_held. previous-earlier under bits at level prefix l r b key part part_is
          answer is (e.is (2 * prefix + 1) r right_is (held-same before mid r same r_held) b.3)
          (g.is (2 * prefix) l left_is (held-same before near l (e.same ∙ same) l_held) b.2))

  module _ (key link under at o : ℕ) (held : Option ℕ) (before after : List Val) (to : Tip at ≡ link_in n link)
      (o_is : o ≡ first + 2 * at) (reads : Reads key_of o held before after) where
    somewhere-tip : link ≡ 0 → ⊥
    somewhere-tip zero = tip-not-nothing at (sym (to ∙ ap (link_in n) zero))

    -- the key of a trie that is a tip here
    tip-is : (t : Trie) → link ≡ link_to t → HoldsIn first n before t →
        (k : ℕ) × (t ≡ tip at k) × (held ≡ Some k)
    tip-is t link_is holds = by t (led link (Tip at) before t to link_is holds) holds
      where
        by : (t : Trie) → Tip at ≡ leads t → HoldsIn first n before t → (k : ℕ) × (t ≡ tip at k) × (held ≡ Some k)
        by (fork p j q l r) e holds = absurd (tip-not-fork at p e)
        by (tip p k) e holds = (
          k,
          ap (λ (x : ℕ). tip x k) (sym (tip-same at p e)),
          reads.is ∙ ap (λ (x : ℕ). key_of (value_at before x)) o_is ∙ ap (keys_in first before) (tip-same at p e)
              ∙ holds.1,
        )

    pub follows-tip : is_above key held ≡ true → Follows cells key link under (Some at) before after
    follows-tip it = record {
      is = λ bits t link_is holds below.
          let (k, is, held_is) = tip-is t link_is holds in
          let more : key < k = ltb-true key k (sym (ap (is_above key) held_is) ∙ it) in
          subst (IsNext key (Some at)) (sym is) (k, (refl, refl), more, λ a m h up. omega (arith, h.1));
      nowhere = λ zero. absurd (somewhere-tip zero);
      same = reads.same;
    }

    pub follows-no-tip : is_above key held ≡ false → Follows cells key link under None before after
    follows-no-tip other = record {
      is = λ bits t link_is holds below.
          let (k, is, held_is) = tip-is t link_is holds in
          let less : k ≤ key = most k (sym (ap (is_above key) held_is) ∙ other) in
          subst (IsNext key None) (sym is) (λ a m h. omega (arith, h.1, less));
      nowhere = λ zero. absurd (somewhere-tip zero);
      same = reads.same;
    }
      where
        most : (k : ℕ) → nat_lt key k ≡ false → k ≤ key
        most k e = grind (arith, e)

    pub precedes-tip : is_below key held ≡ true → Precedes cells key link under (Some at) before after
    precedes-tip it = record {
      is = λ bits t link_is holds below.
          let (k, is, held_is) = tip-is t link_is holds in
          let less : k < key = ltb-true k key (sym (ap (is_below key) held_is) ∙ it) in
          subst (IsPrevious key (Some at)) (sym is) (k, (refl, refl), less, λ a m h down. omega (arith, h.1));
      nowhere = λ zero. absurd (somewhere-tip zero);
      same = reads.same;
    }

    pub precedes-no-tip : is_below key held ≡ false → Precedes cells key link under None before after
    precedes-no-tip other = record {
      is = λ bits t link_is holds below.
          let (k, is, held_is) = tip-is t link_is holds in
          let more : key ≤ k = least k (sym (ap (is_below key) held_is) ∙ other) in
          subst (IsPrevious key None) (sym is) (λ a m h. omega (arith, h.1, more));
      nowhere = λ zero. absurd (somewhere-tip zero);
      same = reads.same;
    }
      where
        least : (k : ℕ) → nat_lt k key ≡ false → key ≤ k
        least k e = grind (arith, e)

  -- ---- the whole trie

  pub finds-all : (finds : Option ℕ → Trie → Type 0) (o link : ℕ) (answer : Option ℕ) (before mid after : List Val) →
      o ≡ first + 2 * n → Reads low_of o link before mid → Finds cells finds link 64 answer mid after →
      FindsAll cells finds answer before after
  finds-all finds o link answer before mid after o_is reads e = record {
    is = λ t by. e.is 0 t (link_is ∙ by.root) (held-same before mid t reads.same by.held) by.split;
    bare = λ none. e.nowhere (link_is ∙ none);
    same = e.same ∙ reads.same;
  }
    where
      link_is : link ≡ root_in first n before
      link_is = reads.is ∙ ap (λ (x : ℕ). low_of (value_at before x)) o_is
