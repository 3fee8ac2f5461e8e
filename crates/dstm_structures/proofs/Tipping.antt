-- What the calls that change an order do, by what they read and write.
use Rattle.std.proofs.Common.{◌≡◌, ◌∙◌, ℕ, ◌+◌, ◌*◌, ◌/◌, ◌%◌, ◌^◌, ◌<◌, ◌≤◌, ◌==◌, Bool, true, false, List, ap, arith, cond, length, get_or-set_same, get_or-set_other, refl, sym, subst, slice_set, ◌⊎◌, inl, inr, nat_lt}
use Rattle.std.specs.Prelude.{Option, Some}
use Rattle.dstm_model.specs.declared.value.Val.{Val}
use Rattle.dstm_model.specs.Map.{no_value, value_at}
use Rattle.dstm_structures.specs.Circles.{behind}
use Rattle.dstm_structures.specs.Maps.{key_of}
use Rattle.dstm_structures.specs.Orders.{Below, Has, HoldsIn, KeepsButForks, Trie, fork, left_in, level_in, link_in, link_to, low_of, order_end, right_in, tip, words_of}
use Rattle.dstm_structures.specs.Tips.{AddsBeside, AddsOver, AddsTip, FreeFork, FreesFork, Gains, KeepsButFork, LooksFork, NoFreeFork, SetsFork, SetsRoot, SetsSide, TellsFork, key_told, words_at}
use Rattle.dstm_structures.specs.declared.cells.Rows.{Rows}
use Rattle.dstm_structures.specs.declared.order.Fork.{Fork}
use Rattle.dstm_structures.specs.declared.order.Link.{Link}
use Rattle.dstm_structures.specs.declared.order.Link.TheVariants.{Nothing, Tip}
use Rattle.dstm_structures.proofs.Doing.{Reads, Writes}
use Rattle.dstm_structures.proofs.Forks.{to_fork}
use Rattle.dstm_structures.proofs.Growing.{gains_before, gains_behind, gains_left, gains_right}
use Rattle.dstm_structures.proofs.Ordering.{IsFork, fork-is, fork-not-below, led}
use Rattle.dstm_structures.proofs.Orders.{fork-not-nothing, leads, tip-not-fork, tip-not-nothing, tip-same}
use Rattle.dstm_structures.proofs.Places.{distance}
use Rattle.dstm_structures.proofs.Powers.{differ_above, half, higher}
use Rattle.dstm_structures.proofs.Tries.{not_above, not_free, prefix_at}

-- a fork's cell tells the same where it has the same words
pub tells_on : {cell level prefix left right : ℕ} {forks now : ℕ → ℕ × ℕ} → now cell ≡ forks cell →
    TellsFork cell level prefix left right forks → TellsFork cell level prefix left right now
tells_on same tells = record {
  level_is = ap (λ (w : ℕ × ℕ). level_in w.1) same ∙ tells.level_is;
  prefix_is = ap (λ (w : ℕ × ℕ). w.0) same ∙ tells.prefix_is;
  left_is = ap (λ (w : ℕ × ℕ). left_in w.1) same ∙ tells.left_is;
  right_is = ap (λ (w : ℕ × ℕ). right_in w.1) same ∙ tells.right_is;
}

module _ (cells : Rows) where
  abbrev n : ℕ
  n = cells.capacity

  abbrev first : ℕ
  first = cells.first

  -- ---- what stays

  pub keys_stay : (before after : List Val) → KeepsButForks first n before after → (p : ℕ) → p < n →
      key_told cells after p ≡ key_told cells before p
  keys_stay before after keeps p here = ap key_of (keeps (first + 2 * p) (inl (omega (arith, here))))

  pub keys_stay_one : (cell : ℕ) (before after : List Val) → KeepsButFork cells cell before after → (p : ℕ) → p < n →
      key_told cells after p ≡ key_told cells before p
  keys_stay_one cell before after keeps p here = ap key_of (keeps (first + 2 * p) (λ e. omega (arith, e, here)))

  pub words_stay : (cell : ℕ) (before after : List Val) → KeepsButFork cells cell before after → (c : ℕ) → (c ≡ cell → ⊥) →
      words_at cells after c ≡ words_at cells before c
  words_stay cell before after keeps c apart =
      ap words_of (keeps (first + 2 * n + 1 + c) (λ e. apart (omega (arith, e))))

  pub one_fork : (cell : ℕ) (before after : List Val) → cell < n → KeepsButFork cells cell before after →
      KeepsButForks first n before after
  one_fork cell before after here keeps o (inl low) = keeps o (λ e. omega (arith, e, low))
  one_fork cell before after here keeps o (inr high) = keeps o (λ e. omega (arith, e, high, here))

  pub both_keep : (before mid after : List Val) → KeepsButForks first n before mid → KeepsButForks first n mid after →
      KeepsButForks first n before after
  both_keep before mid after one two o out = two o out ∙ one o out

  pub all_stay : (before after : List Val) → after ≡ before → KeepsButForks first n before after
  all_stay before after same o out = ap (λ (xs : List Val). value_at xs o) same

  -- ---- one fork's cell

  pub look_fork_is : (cell o : ℕ) (held : ℕ × ℕ) (told : Fork) (before after : List Val) → o ≡ first + 2 * n + 1 + cell →
      told.level ≡ level_in held.1 → told.prefix ≡ held.0 → told.left ≡ left_in held.1 → told.right ≡ right_in held.1 →
      Reads words_of o held before after → LooksFork cells cell told before after
  look_fork_is cell o held told before after at level prefix left right reads =
      let is : held ≡ words_at cells before cell = reads.is ∙ ap (λ (x : ℕ). words_of (value_at before x)) at in
      record {
        tells = record {
          level_is = sym (level ∙ ap (λ (w : ℕ × ℕ). level_in w.1) is);
          prefix_is = sym (prefix ∙ ap (λ (w : ℕ × ℕ). w.0) is);
          left_is = sym (left ∙ ap (λ (w : ℕ × ℕ). left_in w.1) is);
          right_is = sym (right ∙ ap (λ (w : ℕ × ℕ). right_in w.1) is);
        };
        same = reads.same;
      }

  module _ (cell o : ℕ) (had pair : ℕ × ℕ) (before after : List Val) (size : order_end cells ≤ length before)
      (here : cell < n) (at : o ≡ first + 2 * n + 1 + cell) (writes : Writes words_of o had pair before after) where
    written_fork : words_at cells after cell ≡ pair
    written_fork =
        ap (λ (xs : List Val). words_of (value_at xs (first + 2 * n + 1 + cell)))
        (writes.after_is ∙ ap (λ (x : ℕ). slice_set before x writes.kept) at)
        ∙ ap words_of (get_or-set_same before (first + 2 * n + 1 + cell) writes.kept no_value (omega (arith, size, here)))
        ∙ writes.is

    others_stay : KeepsButFork cells cell before after
    others_stay x apart =
        ap (λ (xs : List Val). value_at xs x) (writes.after_is ∙ ap (λ (y : ℕ). slice_set before y writes.kept) at)
        ∙ get_or-set_other before (first + 2 * n + 1 + cell) x writes.kept no_value apart

    pub set_fork_is : (told : Fork) → pair.0 ≡ told.prefix → level_in pair.1 ≡ told.level → left_in pair.1 ≡ told.left →
        right_in pair.1 ≡ told.right → SetsFork cells cell told before after
    set_fork_is told prefix level left right = record {
      tells = record {
        level_is = ap (λ (w : ℕ × ℕ). level_in w.1) written_fork ∙ level;
        prefix_is = ap (λ (w : ℕ × ℕ). w.0) written_fork ∙ prefix;
        left_is = ap (λ (w : ℕ × ℕ). left_in w.1) written_fork ∙ left;
        right_is = ap (λ (w : ℕ × ℕ). right_in w.1) written_fork ∙ right;
      };
      others = others_stay;
    }

    pub clear_fork_is : pair.1 ≡ 0 → FreesFork cells cell before after
    clear_fork_is none = record { free = ap (λ (w : ℕ × ℕ). w.1) written_fork ∙ none; others = others_stay }

  -- a side that has the link already
  pub side_is : (cell link : ℕ) (held : Fork) (greater : Bool) (values : List Val) →
      cond greater held.right held.left ≡ link → SetsSide cells cell held greater link values values
  side_is cell link held false values is = record {
    tells = λ t. record {
      level_is = t.level_is;
      prefix_is = t.prefix_is;
      left_is = t.left_is ∙ is;
      right_is = t.right_is;
    };
    others = λ o apart. refl;
  }
  side_is cell link held true values is = record {
    tells = λ t. record {
      level_is = t.level_is;
      prefix_is = t.prefix_is;
      left_is = t.left_is;
      right_is = t.right_is ∙ is;
    };
    others = λ o apart. refl;
  }

  pub side_set : (cell link : ℕ) (held changed : Fork) (greater : Bool) (before after : List Val) →
      changed.level ≡ held.level → changed.prefix ≡ held.prefix → changed.left ≡ cond greater held.left link →
      changed.right ≡ cond greater link held.right → SetsFork cells cell changed before after →
      SetsSide cells cell held greater link before after
  side_set cell link held changed greater before after level prefix left right sets = record {
    tells = λ t. record {
      level_is = sets.tells.level_is ∙ level;
      prefix_is = sets.tells.prefix_is ∙ prefix;
      left_is = sets.tells.left_is ∙ left;
      right_is = sets.tells.right_is ∙ right;
    };
    others = sets.others;
  }

  -- ---- the link to the whole trie

  -- it is that one already
  pub root_is : (was now : ℕ) (values : List Val) → was ≡ now → SetsRoot cells was now values values
  root_is was now values is = record { is = λ e. e ∙ is; others = λ o apart. refl }

  pub root_set : (o was had now : ℕ) (before after : List Val) → order_end cells ≤ length before → o ≡ first + 2 * n →
      Writes low_of o had now before after → SetsRoot cells was now before after
  root_set o was had now before after size at writes = record {
    is = λ _. ap (λ (xs : List Val). low_of (value_at xs (first + 2 * n))) written
        ∙ ap low_of (get_or-set_same before (first + 2 * n) writes.kept no_value (omega (arith, size))) ∙ writes.is;
    others = λ x other. ap (λ (xs : List Val). value_at xs x) written
        ∙ get_or-set_other before (first + 2 * n) x writes.kept no_value other;
  }
    where
      written : after ≡ slice_set before (first + 2 * n) writes.kept
      written = writes.after_is ∙ ap (λ (x : ℕ). slice_set before x writes.kept) at

  -- ---- the search for a free one

  -- none of so many forks' cells from this one on is free
  pub record PassingForks (home passed : ℕ) (before after : List Val) : Type 0 where
    pub taken : (j : ℕ) → j < passed → (words_at cells before (behind n home j)).1 ≡ 0 → ⊥
    pub same : after ≡ before

  pub forks_start : (home : ℕ) (values : List Val) → PassingForks home 0 values values
  forks_start home values = record { taken = λ j low none. omega (arith, low); same = refl }

  pub forks_end : (home passed : ℕ) (before after : List Val) → home < n → n ≤ passed →
      PassingForks home passed before after → NoFreeFork cells before after
  forks_end home passed before after here end p = record {
    taken = λ c low none. at_distance c none (distance n home c here low);
    same = p.same;
  }
    where
      at_distance : (c : ℕ) → (words_at cells before c).1 ≡ 0 → (j : ℕ) × (j < n) × (behind n home j ≡ c) → ⊥
      at_distance c none d =
          p.taken d.0 (omega (arith, d.1, end)) (ap (λ (x : ℕ). (words_at cells before x).1) d.2 ∙ none)

  module _ (home passed cell o : ℕ) (held : ℕ × ℕ) (before mid after : List Val) (cell_is : cell ≡ behind n home passed)
      (at : o ≡ first + 2 * n + 1 + cell) (p : PassingForks home passed before mid)
      (reads : Reads words_of o held mid after) where
    fork_read : held ≡ words_at cells before cell
    fork_read =
        reads.is ∙ ap (λ (x : ℕ). words_of (value_at mid x)) at
        ∙ ap (λ (xs : List Val). words_of (value_at xs (first + 2 * n + 1 + cell))) p.same

    pub fork_found : held.1 ≡ 0 → FreeFork cells cell before after
    fork_found none = record {
      free = sym (ap (λ (w : ℕ × ℕ). w.1) fork_read) ∙ none;
      same = reads.same ∙ p.same;
    }

    pub fork_passed : (held.1 ≡ 0 → ⊥) → PassingForks home (passed + 1) before after
    fork_passed some = record { taken = λ j low. each j low (cases_of j); same = reads.same ∙ p.same }
      where
        cases_of : (j : ℕ) → (j ≡ passed) ⊎ (j ≡ passed → ⊥)
        cases_of j = grind arith

        each : (j : ℕ) → j < passed + 1 → (j ≡ passed) ⊎ (j ≡ passed → ⊥) →
            (words_at cells before (behind n home j)).1 ≡ 0 → ⊥
        each j low (inl same) none =
            some (ap (λ (w : ℕ × ℕ). w.1) fork_read
            ∙ ap (λ (x : ℕ). (words_at cells before x).1) (cell_is ∙ ap (behind n home) (sym same)) ∙ none)
        each j low (inr apart) none = p.taken j (omega (arith, low, apart)) none

  -- ---- where a link leads to

  pub leads_nowhere : (t : Trie) → Nothing ≡ leads t → ⊥
  leads_nowhere (tip p k) e = tip-not-nothing p e
  leads_nowhere (fork p j q l r) e = fork-not-nothing p e

  pub none_at : (link : ℕ) (to : Link) → to ≡ link_in n link → link ≡ 0 → to ≡ Nothing
  none_at link to is zero = is ∙ ap (link_in n) zero

  pub tip_link : (at : ℕ) (t : Trie) → Tip at ≡ leads t → 2 * at + 1 ≡ link_to t
  tip_link at (tip p k) e = ap (λ (x : ℕ). 2 * x + 1) (tip-same at p e)
  tip_link at (fork p j q l r) e = absurd (tip-not-fork at p e)

  pub fork_link : (at : ℕ) (t : Trie) → to_fork at ≡ leads t → 2 * at + 2 ≡ link_to t
  fork_link at (tip p k) e = absurd (tip-not-fork p at (sym e))
  fork_link at (fork p j q l r) e = ap (λ (x : ℕ). 2 * x + 2) (fork_is at p e)
    where
      fork_is : (a b : ℕ) → to_fork a ≡ to_fork b → a ≡ b
      fork_is a b same = cc

  -- ---- a key is added where a link leads nowhere

  module _ (key at cell link under : ℕ) where
    pub adds_nowhere : (values : List Val) → Nothing ≡ link_in n link →
        AddsTip cells key at cell link under (2 * at + 1) values values
    adds_nowhere values is = record {
      alone = λ zero. (refl, refl);
      gains = λ bits t at held below in_bits absent told_key free.
          absurd (leads_nowhere t (led cells link Nothing values t is at held));
      others = λ o out. refl;
    }

    -- ---- and where it leads to a tip

    pub adds_tip : (place now : ℕ) (before after : List Val) → Tip place ≡ link_in n link →
        AddsBeside cells key at cell place now before after → AddsTip cells key at cell link under now before after
    adds_tip place now before after is adds = record {
      alone = λ zero. absurd (tip-not-nothing place (sym (none_at link (Tip place) is zero)));
      gains = λ bits t there held. (adds under).gains bits t (tip_link place t (led cells link (Tip place) before t is there held))
          held;
      others = (adds under).others;
    }

    -- ---- and where it leads to a fork

    module _ (over : ℕ) (held : Fork) (before mid after : List Val) (is : to_fork over ≡ link_in n link)
        (looks : LooksFork cells over held before mid) where
      leads_on : link ≡ 0 → ⊥
      leads_on zero = fork-not-nothing over (sym (none_at link (to_fork over) is zero))

      parts : (t : Trie) → link ≡ link_to t → HoldsIn first n before t →
          IsFork cells over held.level held.prefix held.left held.right before t
      parts t there holds =
          fork-is cells over held.level held.prefix held.left held.right before t
          (led cells link (to_fork over) before t is there holds) holds looks.tells

      -- whose level is not below the one that the link stands below
      pub adds_high : (now : ℕ) → under ≤ held.level → AddsTip cells key at cell link under now before mid
      adds_high now high = record {
        alone = λ zero. absurd (leads_on zero);
        gains = λ bits t there holds below. absurd (fork-not-below cells under bits (parts t there holds) below high);
        others = all_stay before mid looks.same;
      }

      pub adds_over : (now : ℕ) → under ≤ 64 → AddsOver cells key at cell over held now mid after →
          AddsTip cells key at cell link under now before after
      adds_over now few adds =
          let told : AddsOver cells key at cell over held now before after =
          subst (λ (xs : List Val). AddsOver cells key at cell over held now xs after) looks.same adds in
          let all : AddsTip cells key at cell (2 * over + 2) under now before after = told looks.tells under few in
          record {
            alone = λ zero. absurd (leads_on zero);
            gains = λ bits t there holds. all.gains bits t
                (fork_link over t (led cells link (to_fork over) before t is there holds)) holds;
            others = all.others;
          }

      -- on one side
      module _ (greater : Bool) (part now : ℕ) (near : List Val) (here : over < n) (less : held.level < under)
          (part_is : part ≡ key / 2 ^ held.level) (alike : part / 2 ≡ held.prefix) (side : greater ≡ (part % 2 == 1))
          (adds : AddsTip cells key at cell (cond greater held.right held.left) held.level now mid near)
          (sets : SetsSide cells over held greater now near after) where
        in_fork : (bits : ℕ) (l r : Trie) → HoldsIn first n before (fork over held.level held.prefix l r) →
            Below under bits (fork over held.level held.prefix l r) → held.left ≡ link_to l → held.right ≡ link_to r →
            ((p k : ℕ) → Has p k (fork over held.level held.prefix l r) → k ≡ key → ⊥) →
            key_told cells before at ≡ Some key → (words_at cells before cell).1 ≡ 0 →
            Gains cells key at cell under bits (2 * over + 2) (fork over held.level held.prefix l r) before after
        in_fork bits l r holds b left right absent told_key free =
            by greater side
            (subst (λ (xs : List Val). AddsTip cells key at cell (cond greater held.right held.left) held.level now xs near)
            looks.same adds) sets
          where
            free_over : over ≡ cell → ⊥
            free_over e =
                not_free n (key_told cells before) (words_at cells before) (fork over held.level held.prefix l r) holds over
                (ap (λ (x : ℕ). (words_at cells before x).1) e ∙ free) (inl refl)

            high : held.level ≤ level_in (words_at cells before over).1
            high = omega (arith, looks.tells.level_is)

            still : words_at cells near over ≡ words_at cells before over →
                TellsFork over held.level held.prefix held.left held.right (words_at cells near)
            still same = tells_on same looks.tells

            by : (g : Bool) → g ≡ (part % 2 == 1) →
                AddsTip cells key at cell (cond g held.right held.left) held.level now before near →
                SetsSide cells over held g now near after →
                Gains cells key at cell under bits (2 * over + 2) (fork over held.level held.prefix l r) before after
            by false even a s =
                let bits_are : key / 2 ^ held.level ≡ 2 * held.prefix = sym part_is ∙ grind (arith, alike, even) in
                let g : Gains cells key at cell held.level (2 * held.prefix) now l before near =
                a.gains (2 * held.prefix) l left holds.5 b.2 bits_are (λ p k has. absent p k (inl has)) told_key free in
                let told = s.tells (still (g.stays over (λ used. not_above n (key_told cells before) (words_at cells before)
                held.level (2 * held.prefix) l b.2 holds.5 over high used) free_over)) in
                gains_left cells key at cell under bits (2 * over + 2) over held.level held.prefix now l r before near after
                holds b free refl (keys_stay before near a.others) (keys_stay_one over near after s.others)
                (words_stay over near after s.others) g (record {
                  level_is = told.level_is;
                  prefix_is = told.prefix_is;
                  left_is = told.left_is;
                  right_is = told.right_is ∙ right;
                })
            by true odd a s =
                let bits_are : key / 2 ^ held.level ≡ 2 * held.prefix + 1 = sym part_is ∙ grind (arith, alike, odd) in
                let g : Gains cells key at cell held.level (2 * held.prefix + 1) now r before near =
                a.gains (2 * held.prefix + 1) r right holds.6 b.3 bits_are (λ p k has. absent p k (inr has)) told_key free in
                let told = s.tells (still (g.stays over (λ used. not_above n (key_told cells before) (words_at cells before)
                held.level (2 * held.prefix + 1) r b.3 holds.6 over high used) free_over)) in
                gains_right cells key at cell under bits (2 * over + 2) over held.level held.prefix now l r before near after
                holds b free refl (keys_stay before near a.others) (keys_stay_one over near after s.others)
                (words_stay over near after s.others) g (record {
                  level_is = told.level_is;
                  prefix_is = told.prefix_is;
                  left_is = told.left_is ∙ left;
                  right_is = told.right_is;
                })

        pub adds_side : AddsTip cells key at cell link under (2 * over + 2) before after
        adds_side = record {
          alone = λ zero. absurd (leads_on zero);
          gains = λ bits t there holds below in_bits absent told_key free.
              all bits t (parts t there holds) holds below absent told_key free;
          others = both_keep before mid after (all_stay before mid looks.same)
              (both_keep mid near after adds.others (one_fork over near after here sets.others));
        }
          where
            all : (bits : ℕ) (t : Trie) → IsFork cells over held.level held.prefix held.left held.right before t →
                HoldsIn first n before t → Below under bits t → ((p k : ℕ) → Has p k t → k ≡ key → ⊥) →
                key_told cells before at ≡ Some key → (words_at cells before cell).1 ≡ 0 →
                Gains cells key at cell under bits (2 * over + 2) t before after
            all bits t f holds below absent told_key free =
                subst (λ (x : Trie). Gains cells key at cell under bits (2 * over + 2) x before after) (sym f.is)
                (in_fork bits f.lesser f.greater (subst (HoldsIn first n before) f.is holds)
                (subst (Below under bits) f.is below) f.left_is f.right_is
                (subst (λ (x : Trie). (p k : ℕ) → Has p k x → k ≡ key → ⊥) f.is absent) told_key free)

  -- ---- a new fork of a tip and a trie

  module _ (key at cell under bits h ours theirs first_link link : ℕ) (t : Trie) (made : Fork) (before after : List Val)
      (held : HoldsIn first n before t) (b : Below h theirs t) (inside : at < n) (within : cell < n)
      (told_key : key_told cells before at ≡ Some key) (free : (words_at cells before cell).1 ≡ 0) (less : h < under)
      (in_bits : key / 2 ^ under ≡ bits) (ours_is : key / 2 ^ h ≡ ours) (alike : ours / 2 ≡ theirs / 2)
      (apart : ours ≡ theirs → ⊥) (level : made.level ≡ h) (prefix : made.prefix ≡ ours / 2)
      (left : made.left ≡ cond (nat_lt ours theirs) first_link link) (right : made.right ≡ cond (nat_lt ours theirs) link first_link)
      (first_is : first_link ≡ 2 * at + 1) (link_is : link ≡ link_to t) (sets : SetsFork cells cell made before after) where
    made_tells : (lesser greater : ℕ) → made.left ≡ lesser → made.right ≡ greater →
        TellsFork cell h (ours / 2) lesser greater (words_at cells after)
    made_tells lesser greater left_is right_is = record {
      level_is = sets.tells.level_is ∙ level;
      prefix_is = sets.tells.prefix_is ∙ prefix;
      left_is = sets.tells.left_is ∙ left_is;
      right_is = sets.tells.right_is ∙ right_is;
    }

    by_order : (ours < theirs) ⊎ (theirs < ours) → Gains cells key at cell under bits (2 * cell + 2) t before after
    by_order (inl low) =
        gains_before cells key at cell under bits h ours theirs t before after held b inside within told_key free less in_bits
        ours_is alike (keys_stay_one cell before after sets.others) (words_stay cell before after sets.others) low
        (made_tells (2 * at + 1) (link_to t) (left ∙ first_of ours theirs first_link link low ∙ first_is)
        (right ∙ first_of ours theirs link first_link low ∙ link_is))
      where
        first_of : (a b x y : ℕ) → a < b → cond (nat_lt a b) x y ≡ x
        first_of a b x y lt = grind (arith, lt)
    by_order (inr high) =
        gains_behind cells key at cell under bits h ours theirs t before after held b inside within told_key free less in_bits
        ours_is alike (keys_stay_one cell before after sets.others) (words_stay cell before after sets.others) high
        (made_tells (link_to t) (2 * at + 1) (left ∙ second_of ours theirs first_link link high ∙ link_is)
        (right ∙ second_of ours theirs link first_link high ∙ first_is))
      where
        second_of : (a b x y : ℕ) → b < a → cond (nat_lt a b) x y ≡ y
        second_of a b x y lt = grind (arith, lt)

    pub gains_apart : Gains cells key at cell under bits (2 * cell + 2) t before after
    gains_apart = by_order (either ours theirs apart)
      where
        either : (a b : ℕ) → (a ≡ b → ⊥) → (a < b) ⊎ (b < a)
        either a b differ = grind (arith, differ)

  -- ---- beside a tip

  key_here : (place : ℕ) (before : List Val) (t : Trie) → 2 * place + 1 ≡ link_to t → HoldsIn first n before t →
      (k : ℕ) × (t ≡ tip place k) × (key_told cells before place ≡ Some k)
  key_here place before (tip p k) is held =
      let here : p ≡ place = omega (arith, is) in
      (k, ap (λ (x : ℕ). tip x k) here, ap (key_told cells before) (sym here) ∙ held.1)
  key_here place before (fork p j q l r) is held = absurd (omega (arith, is))

  -- no other key stands there
  pub beside_none : (key at cell place o : ℕ) (held : Option ℕ) (before after : List Val) → o ≡ first + 2 * place →
      ((k : ℕ) → held ≡ Some k → k ≡ key) → Reads key_of o held before after →
      AddsBeside cells key at cell place (2 * place + 1) before after
  beside_none key at cell place o held before after o_is only reads under = record {
    alone = λ zero. absurd (omega (arith, zero));
    gains = λ bits t is holds below in_bits absent told_key free. absurd (never t (key_here place before t is holds) absent);
    others = all_stay before after reads.same;
  }
    where
      read : held ≡ key_told cells before place
      read = reads.is ∙ ap (λ (x : ℕ). key_of (value_at before x)) o_is

      never : (t : Trie) → (k : ℕ) × (t ≡ tip place k) × (key_told cells before place ≡ Some k) →
          ((p k : ℕ) → Has p k t → k ≡ key → ⊥) → ⊥
      never t d absent =
          absent place d.0 (subst (λ (x : Trie). Has place d.0 x) (sym d.1) (refl, refl)) (only d.0 (read ∙ d.2))

  module _ (key at cell place o other level ours theirs tip_link_is here_link : ℕ) (made : Fork) (before mid after : List Val)
      (o_is : o ≡ first + 2 * place) (inside : at < n) (within : cell < n) (high : level < 64)
      (differ : key / 2 ^ level ≡ other / 2 ^ level → ⊥) (same_above : key / 2 ^ (level + 1) ≡ other / 2 ^ (level + 1))
      (ours_is : ours ≡ key / 2 ^ level) (theirs_is : theirs ≡ other / 2 ^ level) (level_is : made.level ≡ level)
      (prefix_is : made.prefix ≡ ours / 2)
      (left_is : made.left ≡ cond (nat_lt ours theirs) tip_link_is here_link)
      (right_is : made.right ≡ cond (nat_lt ours theirs) here_link tip_link_is)
      (tip_is : tip_link_is ≡ 2 * at + 1) (here_is : here_link ≡ 2 * place + 1)
      (reads : Reads key_of o (Some other) before mid) (sets : SetsFork cells cell made mid after) where
    now_sets : SetsFork cells cell made before after
    now_sets = subst (λ (xs : List Val). SetsFork cells cell made xs after) reads.same sets

    pub beside_set : AddsBeside cells key at cell place (2 * cell + 2) before after
    beside_set under = record {
      alone = λ zero. absurd (omega (arith, zero));
      gains = λ bits t is holds below in_bits absent told_key free.
          by bits t is (key_here place before t is holds) holds below in_bits told_key free;
      others = one_fork cell before after within now_sets.others;
    }
      where
        by : (bits : ℕ) (t : Trie) → 2 * place + 1 ≡ link_to t →
            (k : ℕ) × (t ≡ tip place k) × (key_told cells before place ≡ Some k) → HoldsIn first n before t →
            Below under bits t → key / 2 ^ under ≡ bits → key_told cells before at ≡ Some key →
            (words_at cells before cell).1 ≡ 0 → Gains cells key at cell under bits (2 * cell + 2) t before after
        by bits t is d holds below in_bits told_key free =
            let k_is : d.0 ≡ other =
            some_same (sym d.2 ∙ sym (reads.is ∙ ap (λ (x : ℕ). key_of (value_at before x)) o_is)) in
            let t_is : t ≡ tip place other = d.1 ∙ ap (tip place) k_is in
            let in_it : other / 2 ^ under ≡ bits = subst (λ (x : Trie). Below under bits x) t_is below in
            gains_apart key at cell under bits level ours theirs tip_link_is here_link t made before after holds
            (subst (λ (x : Trie). Below level theirs x) (sym t_is) (sym theirs_is)) inside within told_key free
            (differ_above key other under level (in_bits ∙ sym in_it) differ) in_bits (sym ours_is)
            (ap (λ (x : ℕ). x / 2) ours_is ∙ sym (half key level) ∙ same_above ∙ half other level
            ∙ ap (λ (x : ℕ). x / 2) (sym theirs_is))
            (λ e. differ (sym ours_is ∙ e ∙ theirs_is)) level_is prefix_is left_is right_is tip_is (here_is ∙ is) now_sets
          where
            some_same : {a b : ℕ} → Some a ≡ Some b → a ≡ b
            some_same e = cc

  -- ---- beside all tips of a fork

  fork_here : (over : ℕ) (held : Fork) (before : List Val) (t : Trie) → 2 * over + 2 ≡ link_to t → HoldsIn first n before t →
      TellsFork over held.level held.prefix held.left held.right (words_at cells before) →
      IsFork cells over held.level held.prefix held.left held.right before t
  fork_here over held before (tip p k) is holds tells = absurd (omega (arith, is))
  fork_here over held before (fork p j q l r) is holds tells =
      fork-is cells over held.level held.prefix held.left held.right before (fork p j q l r)
      (ap to_fork (omega (arith, is))) holds tells

  module _ (key at cell over higher_by ours : ℕ) (held : Fork) (before : List Val)
      (ours_is : ours ≡ key / 2 ^ held.level / 2)
      (differ : ours / 2 ^ higher_by ≡ held.prefix / 2 ^ higher_by → ⊥) where
    -- the level at which the key differs from those of the fork
    abbrev h : ℕ
    h = held.level + 1 + higher_by

    ours_above : key / 2 ^ h ≡ ours / 2 ^ higher_by
    ours_above =
        higher key (held.level + 1) higher_by
        ∙ ap (λ (x : ℕ). x / 2 ^ higher_by) (half key held.level ∙ sym ours_is)

    theirs_above : held.prefix * 2 ^ (held.level + 1) / 2 ^ h ≡ held.prefix / 2 ^ higher_by
    theirs_above =
        higher (held.prefix * 2 ^ (held.level + 1)) (held.level + 1) higher_by
        ∙ ap (λ (x : ℕ). x / 2 ^ higher_by) (prefix_at held.prefix held.level)

    below_it : (under bits : ℕ) (l r : Trie) → Below under bits (fork over held.level held.prefix l r) →
        key / 2 ^ under ≡ bits → h < under
    below_it under bits l r b in_bits =
        differ_above key (held.prefix * 2 ^ (held.level + 1)) under h (in_bits ∙ sym b.1)
        (λ e. differ (sym ours_above ∙ e ∙ theirs_above))

    -- which is not so high
    pub over_high : 64 ≤ h → AddsOver cells key at cell over held (2 * over + 2) before before
    over_high high tells under few = record {
      alone = λ zero. absurd (omega (arith, zero));
      gains = λ bits t is holds below in_bits absent told_key free.
          absurd (never bits t (fork_here over held before t is holds tells) below in_bits);
      others = λ o out. refl;
    }
      where
        never : (bits : ℕ) (t : Trie) → IsFork cells over held.level held.prefix held.left held.right before t →
            Below under bits t → key / 2 ^ under ≡ bits → ⊥
        never bits t f below in_bits =
            let less : h < under =
            below_it under bits f.lesser f.greater (subst (λ (x : Trie). Below under bits x) f.is below) in_bits in
            omega (arith, less, high, few)

    module _ (upper theirs tip_link_is here_link : ℕ) (made : Fork) (after : List Val) (inside : at < n) (within : cell < n)
        (same_above : ours / 2 ^ (higher_by + 1) ≡ held.prefix / 2 ^ (higher_by + 1))
        (upper_is : upper ≡ ours / 2 ^ higher_by) (theirs_is : theirs ≡ held.prefix / 2 ^ higher_by)
        (level_is : made.level ≡ h) (prefix_is : made.prefix ≡ upper / 2)
        (left_is : made.left ≡ cond (nat_lt upper theirs) tip_link_is here_link)
        (right_is : made.right ≡ cond (nat_lt upper theirs) here_link tip_link_is)
        (tip_is : tip_link_is ≡ 2 * at + 1) (here_is : here_link ≡ 2 * over + 2)
        (sets : SetsFork cells cell made before after) where
      pub over_set : AddsOver cells key at cell over held (2 * cell + 2) before after
      over_set tells under few = record {
        alone = λ zero. absurd (omega (arith, zero));
        gains = λ bits t is holds below in_bits absent told_key free.
            by bits t is (fork_here over held before t is holds tells) holds below in_bits told_key free;
        others = one_fork cell before after within sets.others;
      }
        where
          by : (bits : ℕ) (t : Trie) → 2 * over + 2 ≡ link_to t →
              IsFork cells over held.level held.prefix held.left held.right before t → HoldsIn first n before t →
              Below under bits t → key / 2 ^ under ≡ bits → key_told cells before at ≡ Some key →
              (words_at cells before cell).1 ≡ 0 → Gains cells key at cell under bits (2 * cell + 2) t before after
          by bits t is f holds below in_bits told_key free =
              let b : Below under bits (fork over held.level held.prefix f.lesser f.greater) =
              subst (λ (x : Trie). Below under bits x) f.is below in
              let lower : held.level < h = omega arith in
              let b_h : Below h theirs (fork over held.level held.prefix f.lesser f.greater) =
              (lower, theirs_above ∙ sym theirs_is, b.2, b.3) in
              gains_apart key at cell under bits h upper theirs tip_link_is here_link t made before after holds
              (subst (λ (x : Trie). Below h theirs x) (sym f.is) b_h) inside within told_key free
              (below_it under bits f.lesser f.greater b in_bits) in_bits (ours_above ∙ sym upper_is)
              (ap (λ (x : ℕ). x / 2) upper_is ∙ sym (half ours higher_by) ∙ same_above ∙ half held.prefix higher_by
              ∙ ap (λ (x : ℕ). x / 2) (sym theirs_is))
              (λ e. differ (sym upper_is ∙ e ∙ theirs_is)) level_is prefix_is left_is right_is tip_is (here_is ∙ is) sets
