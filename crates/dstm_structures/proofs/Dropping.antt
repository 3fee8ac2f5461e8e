-- What the calls that take a key out of an order do, and what adding and taking out does to the whole order.
use Rattle.std.proofs.Common.{◌≡◌, ◌∙◌, ℕ, ◌+◌, ◌*◌, ◌/◌, ◌%◌, ◌^◌, ◌<◌, ◌≤◌, ◌==◌, Bool, true, false, List, ap, arith, cond, refl, sym, subst, ◌⊎◌, inl, inr}
use Rattle.dstm_model.specs.declared.value.Val.{Val}
use Rattle.dstm_model.specs.Map.{value_at}
use Rattle.dstm_structures.specs.Maps.{key_of}
use Rattle.dstm_structures.specs.Orders.{Below, Has, HoldsIn, KeepsButForks, Trie, fork, level_in, link_in, link_to, low_of, root_in, tip, words_of}
use Rattle.dstm_structures.specs.Tips.{AddsKey, AddsTip, DropsKey, DropsTip, FreesFork, Gains, KeepsButFork, KeepsButOrder, LeavesNone, LeavesRest, LooksFork, Loses, SetsRoot, SetsSide, TellsFork, Uses, key_told, words_at}
use Rattle.dstm_structures.specs.declared.cells.Rows.{Rows}
use Rattle.dstm_structures.specs.declared.order.Fork.{Fork}
use Rattle.dstm_structures.specs.declared.order.Link.TheVariants.{Nothing, Tip}
use Rattle.dstm_structures.proofs.Doing.{Reads}
use Rattle.dstm_structures.proofs.Forks.{to_fork}
use Rattle.dstm_structures.proofs.Losing.{loses_all_left, loses_all_right, loses_left, loses_right, loses_tip}
use Rattle.dstm_structures.proofs.Ordering.{IsFork, fork-is, fork-not-below, led}
use Rattle.dstm_structures.proofs.Orders.{below-key, leads, tip-not-fork, tip-same}
use Rattle.dstm_structures.proofs.Tipping.{all_stay, both_keep, keys_stay, keys_stay_one, leads_nowhere, one_fork, tells_on, words_stay}
use Rattle.dstm_structures.proofs.Tries.{half_even, half_odd, has_within, holds_on, linked, not_above}

-- the link to the other side
pub far_side : (x a b : ℕ) → cond (x % 2 == 0) a b ≡ cond (x % 2 == 1) b a
far_side x a b = by (parity x)
  where
    parity : (y : ℕ) → (y % 2 ≡ 0) ⊎ (y % 2 ≡ 1)
    parity y = grind arith

    by : (x % 2 ≡ 0) ⊎ (x % 2 ≡ 1) → cond (x % 2 == 0) a b ≡ cond (x % 2 == 1) b a
    by (inl e) = ap (λ (r : ℕ). cond (r == 0) a b) e ∙ sym (ap (λ (r : ℕ). cond (r == 1) b a) e)
    by (inr e) = ap (λ (r : ℕ). cond (r == 0) a b) e ∙ sym (ap (λ (r : ℕ). cond (r == 1) b a) e)

module _ (cells : Rows) where
  abbrev n : ℕ
  n = cells.capacity

  abbrev first : ℕ
  first = cells.first

  -- ---- a key is taken out below a link

  module _ (key at link under : ℕ) where
    pub drops_nowhere : (now : ℕ) (values : List Val) → Nothing ≡ link_in n link →
        DropsTip cells key at link under now values values
    drops_nowhere now values is = record {
      loses = λ bits t there held below has. absurd (leads_nowhere cells t (led cells link Nothing values t is there held));
      others = λ o out. refl;
    }

    -- where the link leads to a tip
    pub drops_here : (place : ℕ) (values : List Val) → Tip place ≡ link_in n link →
        DropsTip cells key at link under 0 values values
    drops_here place values is = record {
      loses = λ bits t there held below has. by bits t (led cells link (Tip place) values t is there held) has;
      others = λ o out. refl;
    }
      where
        by : (bits : ℕ) (t : Trie) → Tip place ≡ leads t → Has at key t → Loses cells key at under bits 0 t values values
        by bits (tip p k) e has = loses_tip cells key at under bits p k values values has refl
        by bits (fork p j q l r) e has = absurd (tip-not-fork place p e)

    pub drops_other : (place now : ℕ) (values : List Val) → Tip place ≡ link_in n link → (place ≡ at → ⊥) →
        DropsTip cells key at link under now values values
    drops_other place now values is apart = record {
      loses = λ bits t there held below has. absurd (never t (led cells link (Tip place) values t is there held) has);
      others = λ o out. refl;
    }
      where
        never : (t : Trie) → Tip place ≡ leads t → Has at key t → ⊥
        never (tip p k) e has = apart (tip-same place p e ∙ has.0)
        never (fork p j q l r) e has = tip-not-fork place p e

    -- where it leads to a fork
    module _ (from : ℕ) (held : Fork) (before mid after : List Val) (is : to_fork from ≡ link_in n link)
        (looks : LooksFork cells from held before mid) where
      parts : (t : Trie) → link ≡ link_to t → HoldsIn first n before t →
          IsFork cells from held.level held.prefix held.left held.right before t
      parts t there holds =
          fork-is cells from held.level held.prefix held.left held.right before t
          (led cells link (to_fork from) before t is there holds) holds looks.tells

      -- whose level is not below the one that the link stands below
      pub drops_high : (now : ℕ) → under ≤ held.level → DropsTip cells key at link under now before mid
      drops_high now high = record {
        loses = λ bits t there holds below has. absurd (fork-not-below cells under bits (parts t there holds) below high);
        others = all_stay cells before mid looks.same;
      }

      -- whose prefix the key does not have
      pub drops_apart : (now part : ℕ) → part ≡ key / 2 ^ held.level → (part / 2 ≡ held.prefix → ⊥) →
          DropsTip cells key at link under now before mid
      drops_apart now part part_is apart = record {
        loses = λ bits t there holds below has. absurd (never bits t (parts t there holds) below has);
        others = all_stay cells before mid looks.same;
      }
        where
          in_fork : (bits : ℕ) (l r : Trie) → Below under bits (fork from held.level held.prefix l r) →
              Has at key (fork from held.level held.prefix l r) → ⊥
          in_fork bits l r b (inl has) =
              apart (ap (λ (x : ℕ). x / 2) (part_is ∙ below-key held.level (2 * held.prefix) l b.2 at key has)
              ∙ half_even held.prefix)
          in_fork bits l r b (inr has) =
              apart (ap (λ (x : ℕ). x / 2) (part_is ∙ below-key held.level (2 * held.prefix + 1) r b.3 at key has)
              ∙ half_odd held.prefix)

          never : (bits : ℕ) (t : Trie) → IsFork cells from held.level held.prefix held.left held.right before t →
              Below under bits t → Has at key t → ⊥
          never bits t f below has =
              in_fork bits f.lesser f.greater (subst (λ (x : Trie). Below under bits x) f.is below)
              (subst (λ (x : Trie). Has at key x) f.is has)

      -- on one side
      module _ (greater : Bool) (part now : ℕ) (near : List Val) (here : from < n)
          (part_is : part ≡ key / 2 ^ held.level) (side : greater ≡ (part % 2 == 1))
          (drops : DropsTip cells key at (cond greater held.right held.left) held.level now mid near) where
        -- the key is on that side
        even_side : (l r : Trie) (bits : ℕ) → Below under bits (fork from held.level held.prefix l r) → greater ≡ false →
            Has at key (fork from held.level held.prefix l r) → Has at key l
        even_side l r bits b even (inl has) = has
        even_side l r bits b even (inr has) =
            absurd (odd_even part (part_is ∙ below-key held.level (2 * held.prefix + 1) r b.3 at key has) (sym side ∙ even))
          where
            odd_even : (x : ℕ) → x ≡ 2 * held.prefix + 1 → (x % 2 == 1) ≡ false → ⊥
            odd_even x odd e = grind (arith, odd, e)

        odd_side : (l r : Trie) (bits : ℕ) → Below under bits (fork from held.level held.prefix l r) → greater ≡ true →
            Has at key (fork from held.level held.prefix l r) → Has at key r
        odd_side l r bits b odd (inr has) = has
        odd_side l r bits b odd (inl has) =
            absurd (even_odd part (part_is ∙ below-key held.level (2 * held.prefix) l b.2 at key has) (sym side ∙ odd))
          where
            even_odd : (x : ℕ) → x ≡ 2 * held.prefix → (x % 2 == 1) ≡ true → ⊥
            even_odd x even e = grind (arith, even, e)

        started : DropsTip cells key at (cond greater held.right held.left) held.level now before near
        started =
            subst (λ (xs : List Val). DropsTip cells key at (cond greater held.right held.left) held.level now xs near)
            looks.same drops

        high : held.level ≤ level_in (words_at cells before from).1
        high = omega (arith, looks.tells.level_is)

        still : words_at cells near from ≡ words_at cells before from →
            TellsFork from held.level held.prefix held.left held.right (words_at cells near)
        still same = tells_on same looks.tells

        -- what a fork of these sides loses, the trie below the link loses
        drops_in : (left_link : ℕ) →
            ((bits : ℕ) (l r : Trie) → HoldsIn first n before (fork from held.level held.prefix l r) →
            Below under bits (fork from held.level held.prefix l r) → held.left ≡ link_to l → held.right ≡ link_to r →
            Has at key (fork from held.level held.prefix l r) →
            Loses cells key at under bits left_link (fork from held.level held.prefix l r) before after) →
            KeepsButFork cells from near after → DropsTip cells key at link under left_link before after
        drops_in left_link in_fork others = record {
          loses = λ bits t there holds below has. all bits t (parts t there holds) holds below has;
          others = both_keep cells before near after started.others (one_fork cells from near after here others);
        }
          where
            all : (bits : ℕ) (t : Trie) → IsFork cells from held.level held.prefix held.left held.right before t →
                HoldsIn first n before t → Below under bits t → Has at key t →
                Loses cells key at under bits left_link t before after
            all bits t f holds below has =
                subst (λ (x : Trie). Loses cells key at under bits left_link x before after) (sym f.is)
                (in_fork bits f.lesser f.greater (subst (HoldsIn first n before) f.is holds)
                (subst (Below under bits) f.is below) f.left_is f.right_is (subst (Has at key) f.is has))

        -- and no other key is there
        module _ (none : now ≡ 0) (frees : FreesFork cells from near after) where
          -- which then has no tip on its side
          emptied : {t : Trie} {side_bits : ℕ} →
              LeavesNone cells key at now t ⊎ LeavesRest cells key held.level side_bits now t near → LeavesNone cells key at now t
          emptied (inl g) = g
          emptied (inr g) = absurd (linked n (key_told cells near) (words_at cells near) g.rest (sym g.is ∙ none))

          all_gone : (bits : ℕ) (l r : Trie) → HoldsIn first n before (fork from held.level held.prefix l r) →
              Below under bits (fork from held.level held.prefix l r) → held.left ≡ link_to l → held.right ≡ link_to r →
              Has at key (fork from held.level held.prefix l r) →
              Loses cells key at under bits (cond greater held.left held.right) (fork from held.level held.prefix l r) before
              after
          all_gone bits l r holds b left right has =
              by greater refl started
            where
              by : (g : Bool) → greater ≡ g →
                  DropsTip cells key at (cond g held.right held.left) held.level now before near →
                  Loses cells key at under bits (cond g held.left held.right) (fork from held.level held.prefix l r) before after
              by false even d =
                  let near_has : Has at key l = even_side l r bits b even has in
                  let g = d.loses (2 * held.prefix) l left holds.5 b.2 near_has in
                  subst (λ (x : ℕ). Loses cells key at under bits x (fork from held.level held.prefix l r) before after)
                  (sym right)
                  (loses_all_left cells key at under bits (2 * from + 2) from held.level held.prefix now l r before near
                  after holds b refl (keys_stay cells before near d.others) (keys_stay_one cells from near after frees.others)
                  (words_stay cells from near after frees.others) (emptied g.left)
                  (below-key held.level (2 * held.prefix) l b.2 at key near_has) g.stays frees.free)
              by true odd d =
                  let near_has : Has at key r = odd_side l r bits b odd has in
                  let g = d.loses (2 * held.prefix + 1) r right holds.6 b.3 near_has in
                  subst (λ (x : ℕ). Loses cells key at under bits x (fork from held.level held.prefix l r) before after)
                  (sym left)
                  (loses_all_right cells key at under bits (2 * from + 2) from held.level held.prefix now l r before near
                  after holds b refl (keys_stay cells before near d.others) (keys_stay_one cells from near after frees.others)
                  (words_stay cells from near after frees.others) (emptied g.left)
                  (below-key held.level (2 * held.prefix + 1) r b.3 at key near_has) g.stays frees.free)

          pub drops_fork : DropsTip cells key at link under (cond greater held.left held.right) before after
          drops_fork = drops_in (cond greater held.left held.right) all_gone frees.others

        -- and others are
        module _ (some : now ≡ 0 → ⊥) (sets : SetsSide cells from held greater now near after) where
          -- so its side has some
          left_on : {t : Trie} {side_bits : ℕ} →
              LeavesNone cells key at now t ⊎ LeavesRest cells key held.level side_bits now t near →
              LeavesRest cells key held.level side_bits now t near
          left_on (inl g) = absurd (some g.is)
          left_on (inr g) = g

          some_stay : (bits : ℕ) (l r : Trie) → HoldsIn first n before (fork from held.level held.prefix l r) →
              Below under bits (fork from held.level held.prefix l r) → held.left ≡ link_to l → held.right ≡ link_to r →
              Has at key (fork from held.level held.prefix l r) →
              Loses cells key at under bits (2 * from + 2) (fork from held.level held.prefix l r) before after
          some_stay bits l r holds b left right has = by greater refl started sets
            where
              by : (g : Bool) → greater ≡ g →
                  DropsTip cells key at (cond g held.right held.left) held.level now before near →
                  SetsSide cells from held g now near after →
                  Loses cells key at under bits (2 * from + 2) (fork from held.level held.prefix l r) before after
              by false even d s =
                  let near_has : Has at key l = even_side l r bits b even has in
                  let g = d.loses (2 * held.prefix) l left holds.5 b.2 near_has in
                  let told = s.tells (still (g.stays from (λ used. not_above n (key_told cells before) (words_at cells before)
                  held.level (2 * held.prefix) l b.2 holds.5 from high used))) in
                  loses_left cells key at under bits (2 * from + 2) from held.level held.prefix now l r before near after
                  holds b refl (keys_stay cells before near d.others) (keys_stay_one cells from near after s.others)
                  (words_stay cells from near after s.others) (below-key held.level (2 * held.prefix) l b.2 at key near_has)
                  (left_on g.left) g.stays (record {
                    level_is = told.level_is;
                    prefix_is = told.prefix_is;
                    left_is = told.left_is;
                    right_is = told.right_is ∙ right;
                  })
              by true odd d s =
                  let near_has : Has at key r = odd_side l r bits b odd has in
                  let g = d.loses (2 * held.prefix + 1) r right holds.6 b.3 near_has in
                  let told = s.tells (still (g.stays from (λ used. not_above n (key_told cells before) (words_at cells before)
                  held.level (2 * held.prefix + 1) r b.3 holds.6 from high used))) in
                  loses_right cells key at under bits (2 * from + 2) from held.level held.prefix now l r before near after
                  holds b refl (keys_stay cells before near d.others) (keys_stay_one cells from near after s.others)
                  (words_stay cells from near after s.others) (below-key held.level (2 * held.prefix + 1) r b.3 at key near_has)
                  (left_on g.left) g.stays (record {
                    level_is = told.level_is;
                    prefix_is = told.prefix_is;
                    left_is = told.left_is ∙ left;
                    right_is = told.right_is;
                  })

          pub drops_side : DropsTip cells key at link under (2 * from + 2) before after
          drops_side = drops_in (2 * from + 2) some_stay sets.others

  -- ---- the whole order

  module _ (o root now : ℕ) (before mid near after : List Val) (o_is : o ≡ first + 2 * n)
      (reads : Reads low_of o root before mid) (keeps : KeepsButForks first n before near)
      (sets : SetsRoot cells root now near after) where
    pub root_was : root ≡ root_in first n before
    root_was = reads.is ∙ ap (λ (x : ℕ). low_of (value_at before x)) o_is

    pub root_now : root_in first n after ≡ now
    root_now = sets.is (ap low_of (keeps (first + 2 * n) (inl (omega arith))) ∙ sym root_was)

    words_same : (c : ℕ) → words_at cells after c ≡ words_at cells near c
    words_same c = ap words_of (sets.others (first + 2 * n + 1 + c) (λ e. omega (arith, e)))

    keys_same : (a : ℕ) → a < n → key_told cells after a ≡ key_told cells near a
    keys_same a here = ap key_of (sets.others (first + 2 * a) (λ e. omega (arith, e, here)))

    held_there : (t : Trie) → HoldsIn first n near t → HoldsIn first n after t
    held_there t held =
        holds_on n (key_told cells near) (words_at cells near) (key_told cells after) (words_at cells after) t
        (λ a k has. keys_same a (has_within n (key_told cells near) (words_at cells near) t held a k has))
        (λ c used. words_same c) held

    pub order_keeps : KeepsButOrder cells before after
    order_keeps x (inl low) = sets.others x (λ e. omega (arith, e, low)) ∙ keeps x (inl (omega (arith, low)))
    order_keeps x (inr high) = sets.others x (λ e. omega (arith, e, high, some_place)) ∙ keeps x (inr high)
      where
        some_place : 0 < n
        some_place = cells.some

    adds_key : (key at cell : ℕ) → key / 2 ^ 64 ≡ 0 → AddsTip cells key at cell root 64 now before near →
        AddsKey cells key at cell before after
    adds_key key at cell no_bits adds = record {
      alone = λ zero. root_now ∙ (adds.alone (root_was ∙ zero)).0;
      unforked = λ zero c. words_same c ∙ ap (λ (xs : List Val). words_at cells xs c) (adds.alone (root_was ∙ zero)).1;
      gains = λ t is held below absent told_key free.
          moved t (adds.gains 0 t (root_was ∙ is) held below no_bits absent told_key free);
      others = order_keeps;
    }
      where
        moved : (t : Trie) → Gains cells key at cell 64 0 now t before near →
            Gains cells key at cell 64 0 (root_in first n after) t before after
        moved t g = record {
          grown = g.grown;
          is = root_now ∙ g.is;
          held = held_there g.grown g.held;
          more = g.more;
          stays = λ c off apart. words_same c ∙ g.stays c off apart;
        }

    drops_key : (key at : ℕ) → DropsTip cells key at root 64 now before near → DropsKey cells key at before after
    drops_key key at drops = record {
      loses = λ t is held below has. moved t (drops.loses 0 t (root_was ∙ is) held below has);
      others = order_keeps;
    }
      where
        left_there : (t : Trie) → LeavesNone cells key at now t ⊎ LeavesRest cells key 64 0 now t near →
            LeavesNone cells key at (root_in first n after) t ⊎ LeavesRest cells key 64 0 (root_in first n after) t after
        left_there t (inl g) = inl (record { is = root_now ∙ g.is; alone = g.alone; bare = g.bare })
        left_there t (inr g) = inr (record {
          rest = g.rest;
          is = root_now ∙ g.is;
          held = held_there g.rest g.held;
          less = g.less;
          freed = λ c used. still_free c (g.freed c used);
        })
          where
            still_free : (c : ℕ) → ((words_at cells near c).1 ≡ 0) ⊎ Uses c g.rest →
                ((words_at cells after c).1 ≡ 0) ⊎ Uses c g.rest
            still_free c (inl free) = inl (ap (λ (w : ℕ × ℕ). w.1) (words_same c) ∙ free)
            still_free c (inr used) = inr used

        moved : (t : Trie) → Loses cells key at 64 0 now t before near →
            Loses cells key at 64 0 (root_in first n after) t before after
        moved t g = record {
          left = left_there t g.left;
          stays = λ c off. words_same c ∙ g.stays c off;
        }

  -- and the link to the whole trie was read before
  pub key_added : (o root now key at cell : ℕ) (before mid near after : List Val) → o ≡ first + 2 * n →
      Reads low_of o root before mid → AddsTip cells key at cell root 64 now mid near → SetsRoot cells root now near after →
      key / 2 ^ 64 ≡ 0 → AddsKey cells key at cell before after
  key_added o root now key at cell before mid near after o_is reads adds sets no_bits =
      let told = subst (λ (xs : List Val). AddsTip cells key at cell root 64 now xs near) reads.same adds in
      adds_key o root now before mid near after o_is reads told.others sets key at cell no_bits told

  pub key_dropped : (o root now key at : ℕ) (before mid near after : List Val) → o ≡ first + 2 * n →
      Reads low_of o root before mid → DropsTip cells key at root 64 now mid near → SetsRoot cells root now near after →
      DropsKey cells key at before after
  key_dropped o root now key at before mid near after o_is reads drops sets =
      let told = subst (λ (xs : List Val). DropsTip cells key at root 64 now xs near) reads.same drops in
      drops_key o root now before mid near after o_is reads told.others sets key at told
