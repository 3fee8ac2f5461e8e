-- What the calls on a map do, by what they read and write.
use Rattle.std.proofs.Common.{◌≡◌, ◌∙◌, ◌++◌, ◌==◌, ℕ, suc, ◌+◌, ◌*◌, ◌/◌, ◌%◌, ◌-◌, ◌<◌, ◌≤◌, Bool, true, false, List, ap, arith, cond, length, get_or-set_same, get_or-set_other, refl, sym, subst, slice_set, ◌⊎◌, inl, inr, nat_lt}
use Rattle.std.specs.Prelude.{Option, None, Some, is_some, replicate}
use Rattle.std.proofs.lemmas.Bool.{cases_eq}
use Rattle.std.proofs.lemmas.List.{get_or-append-add, get_or-replicate, length-replicate}
use Rattle.dstm_model.specs.declared.value.Val.{Val}
use Rattle.dstm_model.specs.Map.{no_value, value_at}
use Rattle.dstm_structures.specs.Circles.{behind}
use Rattle.dstm_structures.specs.Places.{AreTaken, find, is_free, is_key}
use Rattle.dstm_structures.specs.Added.{AddsCells}
use Rattle.dstm_structures.specs.Maps.{Adds, Clears, ClearsAll, Empties, FreeAt, Frees, Inserts, InsertsAt, InsertsBy, Makes, NoneFree, Puts, Reaches, Seeks, SetsKey, SetsReach, Stores, Tells, TellsIf, WastesNone, at_place, end_of, home_in, homes, item_of, key_at, key_of, keys_in, outcome, place_in, reach_at, reach_of, slot_of, values_in}
use Rattle.dstm_structures.specs.declared.cells.Slot.{Slot}
use Rattle.dstm_structures.specs.declared.map.HashMap.{HashMap}
use Rattle.dstm_structures.specs.declared.map.Placed.{Placed}
use Rattle.dstm_structures.specs.declared.map.Placed.TheVariants.{Instead}
use Rattle.dstm_structures.proofs.Doing.{Reads, Writes}
use Rattle.dstm_structures.proofs.Maps.{added-apart, added-here, added-other, added-there, home-within, item-same, place-kept, removed-here, replaced-here, replaced-other}
use Rattle.dstm_structures.proofs.Places.{behind-below, distance, find-where, is_key-apart, is_key-same, key_is, none_not, some_is}

-- what the first cell of a place tells was read, and so its key
pub reads-key : {cell : ℕ} {slot : Slot} {before after : List Val} → Reads slot_of cell slot before after →
    Reads key_of cell slot.key before after
reads-key reads = record { is = ap (λ (s : Slot). s.key) reads.is; same = reads.same }

module _ {V : Type 0} (map : HashMap V) where
  abbrev n : ℕ
  n = map.cells.capacity

  abbrev first : ℕ
  first = map.cells.first

  -- ---- at how many places keys are looked for

  pub reach-told : (h o : ℕ) (slot : Slot) (reach : ℕ) (before after : List Val) → o ≡ first + 2 * h →
      reach ≡ cond (nat_lt slot.reach n) slot.reach n → Reads slot_of o slot before after → Reaches map h reach before after
  reach-told h o slot reach before after at told reads = record {
    is = told ∙ ap (λ (r : ℕ). cond (nat_lt r n) r n)
        (ap (λ (s : Slot). s.reach) reads.is ∙ ap (λ (x : ℕ). reach_of (value_at before x)) at);
    same = reads.same;
  }

  -- a place's key was read
  key_read : (at o : ℕ) (held : Option ℕ) (before mid after : List Val) → o ≡ first + 2 * at → mid ≡ before →
      Reads key_of o held mid after → held ≡ key_at map before at
  key_read at o held before mid after o_is same reads =
      reads.is ∙ ap (λ (x : ℕ). key_of (value_at mid x)) o_is
      ∙ ap (λ (xs : List Val). key_of (value_at xs (first + 2 * at))) same

  -- ---- the search for a key

  -- so many of the places at which a key is looked for do not hold it
  pub record Seeking (key reach passed : ℕ) (before after : List Val) : Type 0 where
    pub is : place_in first n before key ≡ find n (key_at map before) key (homes map key) passed (reach - passed)
    pub same : after ≡ before

  seek-start : (key h reach : ℕ) (before after : List Val) → h ≡ homes map key → Reaches map h reach before after →
      Seeking key reach 0 before after
  seek-start key h reach before after home r = record {
    is = ap (find n (key_at map before) key (homes map key) 0)
        (ap (reach_at map before) (sym home) ∙ sym r.is ∙ omega arith);
    same = r.same;
  }

  pub seek-home : (key h reach o : ℕ) (slot : Slot) (before after : List Val) → h ≡ homes map key → o ≡ first + 2 * h →
      reach ≡ cond (nat_lt slot.reach n) slot.reach n → Reads slot_of o slot before after → Seeking key reach 0 before after
  seek-home key h reach o slot before after home at told reads =
      seek-start key h reach before after home (reach-told h o slot reach before after at told reads)

  pub seek-none : (key reach passed : ℕ) (before after : List Val) → reach ≤ passed → Seeking key reach passed before after →
      Seeks map key None before after
  seek-none key reach passed before after end s =
      let none : reach - passed ≡ 0 = omega (arith, end) in
      record {
        is = s.is ∙ ap (find n (key_at map before) key (homes map key) passed) none;
        same = s.same;
      }

  module _ (key reach passed h at o : ℕ) (held : Option ℕ) (before mid after : List Val) (more : passed < reach)
      (home : h ≡ homes map key) (at_is : at ≡ behind n h passed) (o_is : o ≡ first + 2 * at)
      (s : Seeking key reach passed before mid) (reads : Reads key_of o held mid after) where
    step : find n (key_at map before) key (homes map key) passed (reach - passed)
        ≡ cond (is_key key held) (Some at) (find n (key_at map before) key (homes map key) (passed + 1) (reach - (passed + 1)))
    step =
        let left : reach - passed ≡ suc (reach - (passed + 1)) = omega (arith, more) in
        let at_home : at ≡ behind n (homes map key) passed = at_is ∙ ap (λ (x : ℕ). behind n x passed) home in
        ap (find n (key_at map before) key (homes map key) passed) left
        ∙ ap (λ (x : ℕ). cond (is_key key (key_at map before x)) (Some x)
        (find n (key_at map before) key (homes map key) (passed + 1) (reach - (passed + 1)))) (sym at_home)
        ∙ ap (λ (x : Option ℕ). cond (is_key key x) (Some at)
        (find n (key_at map before) key (homes map key) (passed + 1) (reach - (passed + 1))))
        (sym (key_read at o held before mid after o_is s.same reads))

    pub seek-found : is_key key held ≡ true → Seeks map key (Some at) before after
    seek-found it = record {
      is = s.is ∙ step
          ∙ ap (λ b. cond b (Some at) (find n (key_at map before) key (homes map key) (passed + 1) (reach - (passed + 1)))) it;
      same = reads.same ∙ s.same;
    }

    pub seek-next : is_key key held ≡ false → Seeking key reach (passed + 1) before after
    seek-next other = record {
      is = s.is ∙ step
          ∙ ap (λ b. cond b (Some at) (find n (key_at map before) key (homes map key) (passed + 1) (reach - (passed + 1)))) other;
      same = reads.same ∙ s.same;
    }

  -- ---- the search for a free place

  -- so many places from a home on are not free
  pub record Passing (h reach passed : ℕ) (before after : List Val) : Type 0 where
    pub is : reach ≡ reach_at map before h
    pub taken : AreTaken n (homes map) (key_at map before) h (reach_at map before h) passed
    pub same : after ≡ before

  -- where keys of that home are looked for at so many places
  abbrev pub PassingBy : (h reach passed : ℕ) → List Val → List Val → Type 0
  PassingBy h reach passed before after = reach ≡ reach_at map before h → Passing h reach passed before after

  pub pass-start : (h reach : ℕ) (values : List Val) → PassingBy h reach 0 values values
  pass-start h reach values is = record {
    is = is;
    taken = λ j below. absurd (omega (arith, below));
    same = refl;
  }

  pub pass-none : (h reach passed : ℕ) (before after : List Val) → n ≤ passed → Passing h reach passed before after →
      NoneFree map h before after
  pass-none h reach passed before after end p = record {
    taken = λ j below. p.taken j (omega (arith, below, end));
    same = p.same;
  }

  module _ (h reach passed at o : ℕ) (held : Option ℕ) (beyond : Bool) (before mid after : List Val)
      (at_is : at ≡ behind n h passed) (o_is : o ≡ first + 2 * at)
      (beyond_is : beyond ≡ cond (nat_lt passed reach) false true) (p : Passing h reach passed before mid)
      (reads : Reads key_of o held mid after) where
    looked : is_free (homes map) h (cond (nat_lt passed (reach_at map before h)) false true)
        (key_at map before (behind n h passed)) ≡ is_free (homes map) h beyond held
    looked =
        ap (λ (r : ℕ). is_free (homes map) h (cond (nat_lt passed r) false true) (key_at map before (behind n h passed)))
        (sym p.is)
        ∙ ap (λ b. is_free (homes map) h b (key_at map before (behind n h passed))) (sym beyond_is)
        ∙ ap (is_free (homes map) h beyond)
        (sym (key_read at o held before mid after o_is p.same reads ∙ ap (key_at map before) at_is))

    pub pass-found : is_free (homes map) h beyond held ≡ true → FreeAt map h passed before after
    pass-found it = record { free = looked ∙ it; taken = p.taken; same = reads.same ∙ p.same }

    pub pass-next : is_free (homes map) h beyond held ≡ false → Passing h reach (passed + 1) before after
    pass-next other = record {
      is = p.is;
      taken = λ j below. each j below (cases_eq j passed);
      same = reads.same ∙ p.same;
    }
      where
        each : (j : ℕ) → j < passed + 1 → (j ≡ passed) ⊎ (j ≡ passed → ⊥) →
            is_free (homes map) h (cond (nat_lt j (reach_at map before h)) false true) (key_at map before (behind n h j))
            ≡ false
        each j below (inl last) =
            ap (λ (x : ℕ). is_free (homes map) h (cond (nat_lt x (reach_at map before h)) false true)
            (key_at map before (behind n h x))) last ∙ looked ∙ other
        each j below (inr apart) = p.taken j (omega (arith, below, apart))

  -- ---- what is set for a key that is added

  -- the first cell of a place was set to what this tells, where it told that
  module _ (at p : ℕ) (had now : Slot) (before after : List Val) (size : end_of map ≤ length before) (here : at < n)
      (p_is : p ≡ first + 2 * at) (writes : Writes slot_of p had now before after) where
    slot-was : had ≡ slot_of (value_at before (first + 2 * at))
    slot-was = writes.was ∙ ap (λ (x : ℕ). slot_of (value_at before x)) p_is

    slot-whole : after ≡ slice_set before (first + 2 * at) writes.kept
    slot-whole = writes.after_is ∙ ap (λ (x : ℕ). slice_set before x writes.kept) p_is

    slot-is : slot_of (value_at after (first + 2 * at)) ≡ now
    slot-is =
        ap (λ (xs : List Val). slot_of (value_at xs (first + 2 * at))) slot-whole
        ∙ ap slot_of (get_or-set_same before (first + 2 * at) writes.kept no_value (omega (arith, size, here)))
        ∙ writes.is

    slot-others : (x : ℕ) → (x ≡ first + 2 * at → ⊥) → value_at after x ≡ value_at before x
    slot-others x apart =
        ap (λ (xs : List Val). value_at xs x) slot-whole
        ∙ get_or-set_other before (first + 2 * at) x writes.kept no_value apart

    pub sets-key : (key : Option ℕ) → now ≡ record had { key = key } → SetsKey map at key before after
    sets-key key is = record {
      is = ap (λ (s : Slot). s.key) (slot-is ∙ is);
      reaches = λ h. by h (cases_eq h at);
      others = slot-others;
    }
      where
        top : reach_of (value_at after (first + 2 * at)) ≡ reach_of (value_at before (first + 2 * at))
        top = ap (λ (s : Slot). s.reach) (slot-is ∙ is) ∙ ap (λ (s : Slot). s.reach) slot-was

        by : (h : ℕ) → (h ≡ at) ⊎ (h ≡ at → ⊥) → reach_at map after h ≡ reach_at map before h
        by h (inl same) =
            ap (reach_at map after) same ∙ ap (λ (r : ℕ). cond (nat_lt r n) r n) top ∙ ap (reach_at map before) (sym same)
        by h (inr apart) =
            ap (λ (v : Val). cond (nat_lt (reach_of v) n) (reach_of v) n)
            (slot-others (first + 2 * h) (λ e. apart (omega (arith, e))))

    pub sets-reach : (far : ℕ) → far ≤ n → now ≡ record had { reach = far } → SetsReach map at far before after
    sets-reach far most is = record {
      is = ap (λ (s : Slot). cond (nat_lt s.reach n) s.reach n) (slot-is ∙ is) ∙ all far most;
      key = ap (λ (s : Slot). s.key) (slot-is ∙ is) ∙ ap (λ (s : Slot). s.key) slot-was;
      others = slot-others;
    }
      where
        all : (a : ℕ) → a ≤ n → cond (nat_lt a n) a n ≡ a
        all a le = grind (arith, le)

  -- keys of a home are looked for at so many places at least
  pub record Extends (h far : ℕ) (before after : List Val) : Type 0 where
    pub is : reach_at map after h ≡ cond (nat_lt (reach_at map before h) far) far (reach_at map before h)
    pub key : key_at map after h ≡ key_at map before h
    pub others : (o : ℕ) → (o ≡ first + 2 * h → ⊥) → value_at after o ≡ value_at before o

  extend-more : (h far : ℕ) (before after : List Val) → reach_at map before h < far → SetsReach map h far before after →
      Extends h far before after
  extend-more h far before after less sets = record {
    is = sets.is ∙ grows (reach_at map before h) less;
    key = sets.key;
    others = sets.others;
  }
    where
      grows : (a : ℕ) → a < far → far ≡ cond (nat_lt a far) far a
      grows a lt = grind (arith, lt)

  extend-none : (h far : ℕ) (values : List Val) → far ≤ reach_at map values h → Extends h far values values
  extend-none h far values enough = record {
    is = stays (reach_at map values h) enough;
    key = refl;
    others = λ x apart. refl;
  }
    where
      stays : (a : ℕ) → far ≤ a → a ≡ cond (nat_lt a far) far a
      stays a le = grind (arith, le)

  -- ---- a key is taken out of its places

  pub record Clearing (key reach passed : ℕ) (before after : List Val) : Type 0 where
    pub is : reach ≡ reach_at map before (homes map key)
    pub clears : Clears map key passed before after

  pub clear-start : (key h reach : ℕ) (before after : List Val) → h ≡ homes map key → Reaches map h reach before after →
      Clearing key reach 0 before after
  clear-start key h reach before after home r = record {
    is = r.is ∙ ap (reach_at map before) home;
    clears = record {
      gone = λ j below. absurd (omega (arith, below));
      keys = λ k at apart. ap (λ (xs : List Val). is_key k (key_at map xs at)) r.same;
      less = λ at. inr (ap (λ (xs : List Val). key_at map xs at) r.same);
      reaches = λ home. ap (λ (xs : List Val). reach_at map xs home) r.same;
      others = λ o out. ap (λ (xs : List Val). value_at xs o) r.same;
    };
  }

  pub clear-end : (key reach passed : ℕ) (before after : List Val) → reach ≤ passed → Clearing key reach passed before after →
      ClearsAll map key before after
  clear-end key reach passed before after end c = record {
    gone = λ j below. c.clears.gone j (omega (arith, below, end, c.is));
    keys = c.clears.keys;
    less = c.clears.less;
    reaches = c.clears.reaches;
    others = c.clears.others;
  }

  pub clear-next : (key reach passed h at : ℕ) (before mid after : List Val) → h ≡ homes map key → at ≡ behind n h passed →
      at < n → Clearing key reach passed before mid → Empties map at key mid after → Clearing key reach (passed + 1) before after
  clear-next key reach passed h at before mid after home at_is here c e = record {
    is = c.is;
    clears = record {
      gone = λ j below. each j below (cases_eq (behind n (homes map key) j) at);
      keys = λ k p apart. e.keys k p apart ∙ c.clears.keys k p apart;
      less = λ p. fewer p (e.less p) (c.clears.less p);
      reaches = λ home. e.reaches home ∙ c.clears.reaches home;
      others = λ o out. e.others o (out at here) ∙ c.clears.others o out;
    };
  }
    where
      fewer : (p : ℕ) → (key_at map after p ≡ None) ⊎ (key_at map after p ≡ key_at map mid p) →
          (key_at map mid p ≡ None) ⊎ (key_at map mid p ≡ key_at map before p) →
          (key_at map after p ≡ None) ⊎ (key_at map after p ≡ key_at map before p)
      fewer p (inl none) was = inl none
      fewer p (inr same) (inl none) = inl (same ∙ none)
      fewer p (inr same) (inr stays) = inr (same ∙ stays)

      each : (j : ℕ) → j < passed + 1 → (behind n (homes map key) j ≡ at) ⊎ (behind n (homes map key) j ≡ at → ⊥) →
          is_key key (key_at map after (behind n (homes map key) j)) ≡ false
      each j below (inl same) = ap (λ (x : ℕ). is_key key (key_at map after x)) same ∙ e.gone
      each j below (inr apart) =
          let away : j ≡ passed → ⊥ =
          λ is. apart (ap (behind n (homes map key)) is ∙ sym (at_is ∙ ap (λ (x : ℕ). behind n x passed) home)) in
          ap (λ (v : Val). is_key key (key_of v))
          (e.others (first + 2 * behind n (homes map key) j) (λ is. apart (omega (arith, is))))
          ∙ c.clears.gone j (omega (arith, below, away))

  pub empties-none : (at key o : ℕ) (held : Option ℕ) (before after : List Val) → o ≡ first + 2 * at →
      is_key key held ≡ false → Reads key_of o held before after → Empties map at key before after
  empties-none at key o held before after o_is other reads = record {
    gone = ap (λ (xs : List Val). is_key key (key_at map xs at)) reads.same
        ∙ ap (is_key key) (sym (key_read at o held before before after o_is refl reads)) ∙ other;
    keys = λ k p apart. ap (λ (xs : List Val). is_key k (key_at map xs p)) reads.same;
    less = λ p. inr (ap (λ (xs : List Val). key_at map xs p) reads.same);
    reaches = λ home. ap (λ (xs : List Val). reach_at map xs home) reads.same;
    others = λ x apart. ap (λ (xs : List Val). value_at xs x) reads.same;
  }

  pub empties-some : (at key o : ℕ) (held : Option ℕ) (before mid after : List Val) → o ≡ first + 2 * at →
      is_key key held ≡ true → Reads key_of o held before mid → SetsKey map at None mid after →
      Empties map at key before after
  empties-some at key o held before mid after o_is it reads sets = record {
    gone = ap (is_key key) sets.is;
    keys = λ k x apart. other k x apart (cases_eq x at);
    less = λ x. fewer x (cases_eq x at);
    reaches = λ home. sets.reaches home ∙ ap (λ (xs : List Val). reach_at map xs home) reads.same;
    others = kept;
  }
    where
      kept : (x : ℕ) → (x ≡ first + 2 * at → ⊥) → value_at after x ≡ value_at before x
      kept x apart = sets.others x apart ∙ ap (λ (xs : List Val). value_at xs x) reads.same

      fewer : (x : ℕ) → (x ≡ at) ⊎ (x ≡ at → ⊥) →
          (key_at map after x ≡ None) ⊎ (key_at map after x ≡ key_at map before x)
      fewer x (inl same) = inl (ap (key_at map after) same ∙ sets.is)
      fewer x (inr away) = inr (ap key_of (kept (first + 2 * x) (λ e. away (omega (arith, e)))))

      other : (k x : ℕ) → (k ≡ key → ⊥) → (x ≡ at) ⊎ (x ≡ at → ⊥) →
          is_key k (key_at map after x) ≡ is_key k (key_at map before x)
      other k x apart (inl same) =
          ap (λ (y : ℕ). is_key k (key_at map after y)) same ∙ ap (is_key k) sets.is
          ∙ sym (is_key-apart k key (λ e. apart (sym e)))
          ∙ ap (is_key k) (sym (sym (key_read at o held before before mid o_is refl reads) ∙ key_is key held it))
          ∙ ap (λ (y : ℕ). is_key k (key_at map before y)) (sym same)
      other k x apart (inr away) =
          ap (λ (v : Val). is_key k (key_of v)) (kept (first + 2 * x) (λ e. away (omega (arith, e))))

-- ---- what the calls do

-- cells are made, each of which holds this
pub made-cells : {number many : ℕ} {before after : List Val} (cells : ℕ) (kept : Val) →
    after ≡ before ++ replicate cells kept → number ≡ length before → cells ≡ many → AddsCells number many before after
made-cells cells kept whole start count = record {
  added = replicate cells kept;
  behind = whole;
  first = start;
  count = length-replicate cells kept ∙ count;
}

module _ {V : Type 0} (found : Val → V) (map : HashMap V) where
  abbrev f : ℕ
  f = map.cells.first

  abbrev m : ℕ
  m = map.cells.capacity

  pub stores : (at key p : ℕ) (value was : V) (before mid after : List Val) → end_of map ≤ length before → at < m →
      p ≡ f + 2 * at + 1 → Writes found p was value before mid → SetsKey map at (Some key) mid after →
      Stores found map at key value before after
  stores at key p value was before mid after size here p_is sets puts =
      let two : ℕ = f + 2 * at + 1 in
      let whole : mid ≡ slice_set before two sets.kept =
      sets.after_is ∙ ap (λ (x : ℕ). slice_set before x sets.kept) p_is in
      let kept : (x : ℕ) → (x ≡ two → ⊥) → value_at mid x ≡ value_at before x =
      λ x apart. ap (λ (xs : List Val). value_at xs x) whole ∙ get_or-set_other before two x sets.kept no_value apart in
      record {
        key_is = puts.is;
        value_is = ap found (puts.others two (λ e. omega (arith, e)))
            ∙ ap (λ (xs : List Val). found (value_at xs two)) whole
            ∙ ap found (get_or-set_same before two sets.kept no_value (omega (arith, size, here))) ∙ sets.is;
        reaches = λ h.
            puts.reaches h
            ∙ ap (λ (v : Val). cond (nat_lt (reach_of v) m) (reach_of v) m) (kept (f + 2 * h) (λ e. omega (arith, e)));
        others = λ x away far. puts.others x away ∙ kept x far;
      }

  -- a key's value is told
  pub tells-none : (key : ℕ) (before after : List Val) → Seeks map key None before after → Tells found map key None before after
  tells-none key before after s = record {
    is = sym (ap (at_place (values_in found f before)) s.is);
    same = s.same;
  }

  pub tells-if : (key : ℕ) (place : Option ℕ) (before after : List Val) → Seeks map key place before after →
      TellsIf found map key (is_some place) before after
  tells-if key place before after s = record {
    is = sym (ap (λ (o : Option ℕ). is_some (at_place (values_in found f before) o)) s.is ∙ there place);
    same = s.same;
  }
    where
      there : (o : Option ℕ) → is_some (at_place (values_in found f before) o) ≡ is_some o
      there None = refl
      there (Some at) = refl

  at_gap : (gap p : ℕ) (v : V) (before mid : List Val) → p ≡ f + 2 * gap + 1 → mid ≡ before →
      v ≡ found (value_at mid p) → v ≡ values_in found f before gap
  at_gap gap p v before mid p_is same is =
      is ∙ ap (λ (x : ℕ). found (value_at mid x)) p_is
      ∙ ap (λ (xs : List Val). found (value_at xs (f + 2 * gap + 1))) same

  pub tells-some : (key gap p : ℕ) (v : V) (before mid after : List Val) → p ≡ f + 2 * gap + 1 →
      Seeks map key (Some gap) before mid → Reads found p v mid after → Tells found map key (Some v) before after
  tells-some key gap p v before mid after p_is s reads = record {
    is = ap Some (at_gap gap p v before mid p_is s.same reads.is)
        ∙ sym (ap (at_place (values_in found f before)) s.is);
    same = reads.same ∙ s.same;
  }

  -- a key gets another value
  pub puts-instead : (key gap p : ℕ) (had value : V) (before mid after : List Val) → 0 < m → end_of map ≤ length before →
      gap < m → p ≡ f + 2 * gap + 1 → Seeks map key (Some gap) before mid → Writes found p had value mid after →
      Puts found map key value (Instead had) before after
  puts-instead key gap p had value before mid after some size here p_is s writes =
      let at : ℕ = f + 2 * gap + 1 in
      let whole : after ≡ slice_set before at writes.kept =
      writes.after_is ∙ ap (λ (xs : List Val). slice_set xs p writes.kept) s.same
      ∙ ap (λ (x : ℕ). slice_set before x writes.kept) p_is in
      let kept : (x : ℕ) → (x ≡ at → ⊥) → value_at after x ≡ value_at before x =
      λ x apart. ap (λ (xs : List Val). value_at xs x) whole ∙ get_or-set_other before at x writes.kept no_value apart in
      let place : (k : ℕ) → place_in f m after k ≡ place_in f m before k =
      λ k. place-kept found f m some before after k
      (λ q below. ap (λ (v : Val). is_key k (key_of v)) (kept (f + 2 * q) (λ e. omega (arith, e))))
      (λ h below. ap (λ (v : Val). cond (nat_lt (reach_of v) m) (reach_of v) m)
      (kept (f + 2 * h) (λ e. omega (arith, e)))) in
      record {
        was = ap (at_place (values_in found f before)) s.is
            ∙ ap Some (sym (at_gap gap p had before mid p_is s.same writes.was));
        is = replaced-here found f m some before after key gap value s.is (place key)
            (ap (λ (xs : List Val). found (value_at xs at)) whole
            ∙ ap found (get_or-set_same before at writes.kept no_value (omega (arith, size, here))) ∙ writes.is);
        others = λ k apart. replaced-other found f m some before after key gap k apart s.is (place k)
            (λ q below away. ap found (kept (f + 2 * q + 1) (λ e. away (omega (arith, e)))));
        around = λ x out. beside x out kept;
        wastes = λ none q k inside held.
            place k
            ∙ none q k inside (sym (ap key_of (kept (f + 2 * q) (λ e. omega (arith, e)))) ∙ held);
      }
    where
      beside : (x : ℕ) → (x < f) ⊎ (f + 2 * m ≤ x) →
          ((x : ℕ) → (x ≡ f + 2 * gap + 1 → ⊥) → value_at after x ≡ value_at before x) →
          value_at after x ≡ value_at before x
      beside x (inl low) kept = kept x (λ e. omega (arith, e, low))
      beside x (inr high) kept = kept x (λ e. omega (arith, e, high, here))

  -- a key that was not there is put
  pub puts-absent : (key : ℕ) (value : V) (place : Option ℕ) (placed : Placed V) (before mid after : List Val) →
      placed ≡ outcome place → Seeks map key None before mid → Inserts found map key value place mid after →
      Puts found map key value placed before after
  puts-absent key value place placed before mid after is s inserts =
      subst (λ (p : Placed V). Puts found map key value p before after) (sym is)
      (by place (subst (λ (xs : List Val). Inserts found map key value place xs after) s.same inserts s.is))
    where
      by : (at : Option ℕ) → InsertsBy found map key value at before after →
          Puts found map key value (outcome at) before after
      by None full = full
      by (Some at) put = put.makes

  -- no place was free for it
  pub inserts-none : (key h reach : ℕ) (value : V) (before mid after : List Val) → 0 < m → h ≡ home_in m key →
      Reaches map h reach before mid → Frees map h reach None mid after → Inserts found map key value None before after
  inserts-none key h reach value before mid after some home reaches frees absent = record {
    was = ap (at_place (values_in found f before)) absent;
    full = λ at here. all at (distance m h at homed here);
    same = none.same;
  }
    where
      none : NoneFree map h before after
      none = subst (λ (xs : List Val). Frees map h reach None xs after) reaches.same frees reaches.is

      homed : h < m
      homed = subst (λ x. x < m) (sym home) (home-within m some key)

      filled : (b : Bool) (o : Option ℕ) → is_free (homes map) h b o ≡ false → is_some o ≡ true
      filled b None free = absurd (cc)
      filled b (Some x) free = refl

      all : (at : ℕ) → (j : ℕ) × (j < m) × (behind m h j ≡ at) → is_some (key_at map before at) ≡ true
      all at d =
          ap (λ (x : ℕ). is_some (key_at map before x)) (sym d.2)
          ∙ filled (cond (nat_lt d.0 (reach_at map before h)) false true) (key_at map before (behind m h d.0))
          (none.taken d.0 d.1)

  inserts-here : (key i : ℕ) (value : V) (before near after : List Val) → 0 < m → i < m →
      FreeAt map (home_in m key) i before before → Stores found map (behind m (home_in m key) i) key value before near →
      Extends map (home_in m key) (i + 1) near after → place_in f m before key ≡ None →
      InsertsAt found map key (behind m (home_in m key) i) value before after
  inserts-here key i value before near after some few free s e absent = record {
    makes = record {
      was = ap (at_place (values_in found f before)) absent;
      is = added-here found f m some before after key i value few absent free.free free.taken there others far as_far is values;
      others = λ k apart. added-other found f m some before after key i value few absent free.free free.taken there others far
          as_far is values k apart;
      around = λ x out. beside x out;
      wastes = λ none at k here held. stands none at k here held (cases_eq at p);
    };
    there = stands-here;
    places = stands-apart;
  }
    where
      h : ℕ
      h = home_in m key

      p : ℕ
      p = behind m h i

      homed : h < m
      homed = home-within m some key

      place : p < m
      place = behind-below m h i homed few

      kept : (x : ℕ) → (x ≡ f + 2 * p → ⊥) → (x ≡ f + 2 * p + 1 → ⊥) → (x ≡ f + 2 * h → ⊥) →
          value_at after x ≡ value_at before x
      kept x one two three = e.others x three ∙ s.others x one two

      keys_stay : (q : ℕ) → keys_in f after q ≡ keys_in f near q
      keys_stay q = by (cases_eq q h)
        where
          by : (q ≡ h) ⊎ (q ≡ h → ⊥) → keys_in f after q ≡ keys_in f near q
          by (inl same) = ap (keys_in f after) same ∙ e.key ∙ ap (keys_in f near) (sym same)
          by (inr apart) = ap key_of (e.others (f + 2 * q) (λ same. apart (omega (arith, same))))

      there : keys_in f after p ≡ Some key
      there = keys_stay p ∙ s.key_is

      others : (q : ℕ) → q < m → (q ≡ p → ⊥) → keys_in f after q ≡ keys_in f before q
      others q below apart =
          keys_stay q
          ∙ ap key_of (s.others (f + 2 * q) (λ same. apart (omega (arith, same))) (λ same. omega (arith, same)))

      far : reach_at map after h ≡ cond (nat_lt (reach_at map before h) (i + 1)) (i + 1) (reach_at map before h)
      far = e.is ∙ ap (λ (r : ℕ). cond (nat_lt r (i + 1)) (i + 1) r) (s.reaches h)

      as_far : (x : ℕ) → x < m → (x ≡ h → ⊥) → reach_at map after x ≡ reach_at map before x
      as_far x below apart =
          ap (λ (v : Val). cond (nat_lt (reach_of v) m) (reach_of v) m)
          (e.others (f + 2 * x) (λ same. apart (omega (arith, same))))
          ∙ s.reaches x

      is : values_in found f after p ≡ value
      is = ap found (e.others (f + 2 * p + 1) (λ same. omega (arith, same))) ∙ s.value_is

      values : (q : ℕ) → q < m → (q ≡ p → ⊥) → values_in found f after q ≡ values_in found f before q
      values q below apart =
          ap found (kept (f + 2 * q + 1) (λ same. omega (arith, same)) (λ same. apart (omega (arith, same)))
          (λ same. omega (arith, same)))

      beside : (x : ℕ) → (x < f) ⊎ (f + 2 * m ≤ x) → value_at after x ≡ value_at before x
      beside x (inl low) =
          kept x (λ same. omega (arith, same, low)) (λ same. omega (arith, same, low)) (λ same. omega (arith, same, low))
      beside x (inr high) =
          kept x (λ same. omega (arith, same, high, place)) (λ same. omega (arith, same, high, place))
          (λ same. omega (arith, same, high, homed))

      stands-here : place_in f m after key ≡ Some p
      stands-here =
          added-there found f m some before after key i value few absent free.free free.taken there others far as_far is values

      stands-apart : (k : ℕ) → (k ≡ key → ⊥) → place_in f m after k ≡ place_in f m before k
      stands-apart k apart =
          added-apart found f m some before after key i value few absent free.free free.taken there others far as_far is values k
          apart

      stands : WastesNone map before → (at k : ℕ) → at < m → keys_in f after at ≡ Some k → (at ≡ p) ⊎ (at ≡ p → ⊥) →
          place_in f m after k ≡ Some at
      stands none at k here held (inl same) =
          let it : key ≡ k = some_is key k (sym there ∙ ap (keys_in f after) (sym same) ∙ held) in
          ap (place_in f m after) (sym it) ∙ stands-here ∙ ap Some (sym same)
      stands none at k here held (inr apart) =
          let was : place_in f m before k ≡ Some at = none at k here (sym (others at here apart) ∙ held) in
          stands-apart k (λ e. none_not at (sym absent ∙ ap (place_in f m before) (sym e) ∙ was)) ∙ was

  -- it was put into the first place that is free for keys of its home, which are looked for at so many places
  pub record Storing (key h reach passed at : ℕ) (value : V) (before after : List Val) : Type 0 where
    pub reaches : reach ≡ reach_at map before h
    pub free : FreeAt map h passed before before
    pub stored : Stores found map at key value before after

  pub storing : (key h reach passed at : ℕ) (value : V) (before mid near after : List Val) → Reaches map h reach before mid →
      Frees map h reach (Some passed) mid near → Stores found map at key value near after →
      Storing key h reach passed at value before after
  storing key h reach passed at value before mid near after reaches frees stored =
      let free : FreeAt map h passed before near =
      subst (λ (xs : List Val). Frees map h reach (Some passed) xs near) reaches.same frees reaches.is in
      record {
        reaches = reaches.is;
        free = subst (λ (xs : List Val). FreeAt map h passed before xs) free.same free;
        stored = subst (λ (xs : List Val). Stores found map at key value xs after) free.same stored;
      }

  module _ (key h reach passed at : ℕ) (value : V) (before near after : List Val) (some : 0 < m) (home : h ≡ home_in m key)
      (few : passed < m) (at_is : at ≡ behind m h passed) (s : Storing key h reach passed at value before near) where
    inserts-new : Extends map h (passed + 1) near after → Inserts found map key value (Some at) before after
    inserts-new extends absent =
        subst (λ (x : ℕ). InsertsAt found map key x value before after) (sym (at_is ∙ ap (λ (x : ℕ). behind m x passed) home))
        (inserts-here key passed value before near after some few
        (subst (λ (x : ℕ). FreeAt map x passed before before) home s.free)
        (subst (λ (x : ℕ). Stores found map x key value before near) (at_is ∙ ap (λ (x : ℕ). behind m x passed) home)
        s.stored) (subst (λ (x : ℕ). Extends map x (passed + 1) near after) home extends) absent)

    -- keys of its home are looked for there
    pub inserts-within : passed < reach → after ≡ near → Inserts found map key value (Some at) before after
    inserts-within less same =
        inserts-new
        (subst (λ (xs : List Val). Extends map h (passed + 1) near xs) (sym same)
        (extend-none map h (passed + 1) near (omega (arith, less, s.reaches, s.stored.reaches h))))

    -- they are looked for there now
    pub inserts-beyond : reach ≤ passed → SetsReach map h (passed + 1) near after →
        Inserts found map key value (Some at) before after
    inserts-beyond most sets =
        inserts-new (extend-more map h (passed + 1) near after (omega (arith, most, s.reaches, s.stored.reaches h)) sets)

  -- a key is taken out
  takes-here : (key : ℕ) (had : V) (before after : List Val) → 0 < m → item_of found map before key ≡ Some had →
      ClearsAll map key before after → Makes found map key None (Some had) before after
  takes-here key had before after some was c = record {
    was = was;
    is = removed-here found f m some before after key c.gone (c.reaches (home_in m key));
    others = λ k apart. item-same found f m some before after k
        (place-kept found f m some before after k (λ q below. c.keys k q apart) (λ h below. c.reaches h))
        (λ q there. ap found (c.others (f + 2 * q + 1) (λ at here e. omega (arith, e))));
    around = λ x out. beside x out;
    wastes = λ none at k here held. stands none at k here held (c.less at) (cases_eq k key);
  }
    where
      never : true ≡ false → ⊥
      never e = cc

      stands : WastesNone map before → (at k : ℕ) → at < m → key_at map after at ≡ Some k →
          (key_at map after at ≡ None) ⊎ (key_at map after at ≡ key_at map before at) → (k ≡ key) ⊎ (k ≡ key → ⊥) →
          place_in f m after k ≡ Some at
      stands none at k here held (inl gone) which = absurd (none_not k (sym gone ∙ held))
      stands none at k here held (inr same) (inl it) =
          let it_stays : key_at map after at ≡ Some key = held ∙ ap Some it in
          let (j, near, is) =
          find-where m (keys_in f before) key (home_in m key) 0 (reach_at map before (home_in m key)) at
          (none at key here (sym same ∙ it_stays)) in
          absurd (never
          (sym (is_key-same key) ∙ ap (is_key key) (sym it_stays) ∙ ap (λ (x : ℕ). is_key key (key_at map after x)) (sym is)
          ∙ c.gone j (omega (arith, near))))
      stands none at k here held (inr same) (inr apart) =
          place-kept found f m some before after k (λ q below. c.keys k q apart) (λ h below. c.reaches h)
          ∙ none at k here (sym same ∙ held)

      beside : (x : ℕ) → (x < f) ⊎ (f + 2 * m ≤ x) → value_at after x ≡ value_at before x
      beside x (inl low) = c.others x (λ at here e. omega (arith, e, low))
      beside x (inr high) = c.others x (λ at here e. omega (arith, e, high, here))

  pub takes-out : (key : ℕ) (had : V) (before mid after : List Val) → 0 < m → Tells found map key (Some had) before mid →
      ClearsAll map key mid after → Makes found map key None (Some had) before after
  takes-out key had before mid after some tells clears =
      takes-here key had before after some (sym tells.is)
      (subst (λ (xs : List Val). ClearsAll map key xs after) tells.same clears)

  -- a map is made, and maybe more behind its cells
  module _ (cells : ℕ) (kept : Val) (before after : List Val) (whole : after ≡ before ++ replicate cells kept)
      (high : kept.high ≡ 0) (start : f ≡ length before) (many : 2 * m ≤ cells) (some : 0 < m) where
    pub made-each : (x o : ℕ) → x < cells → o ≡ f + x → value_at after o ≡ kept
    made-each x o less o_is =
        ap (λ (xs : List Val). value_at xs o) whole ∙ ap (value_at (before ++ replicate cells kept)) (o_is ∙ ap (λ (a : ℕ). a + x) start)
        ∙ get_or-append-add before (replicate cells kept) x no_value
        ∙ get_or-replicate cells x kept no_value less

    pub made-near : (h : ℕ) → h < m → reach_at map after h ≡ 0
    made-near h here =
        ap (λ (v : Val). cond (nat_lt (reach_of v) m) (reach_of v) m)
        (made-each (2 * h) (f + 2 * h) (omega (arith, here, many)) refl)
        ∙ zero_reach (reach_of kept) (ap (λ (x : ℕ). x / 4294967296) high)
      where
        zero_reach : (a : ℕ) → a ≡ 0 → cond (nat_lt a m) a m ≡ 0
        zero_reach a is = grind (arith, is, some)

    unkeyed : (v : Val) → v.high ≡ 0 → key_of v ≡ None
    unkeyed v is = ap (λ (h : ℕ). cond (h % 4294967296 == 1) (Some v.low) None) is

    pub made-unplaced : (key : ℕ) → place_in f m after key ≡ None
    made-unplaced key =
        ap (λ (r : ℕ). find m (key_at map after) key (home_in m key) 0 r) (made-near (home_in m key) (home-within m some key))

    pub made-empty : (key : ℕ) → item_of found map after key ≡ None
    made-empty key = ap (at_place (values_in found f after)) (made-unplaced key)

    pub made-free : (at : ℕ) → at < m → key_at map after at ≡ None
    made-free at here =
        ap key_of (made-each (2 * at) (f + 2 * at) (omega (arith, here, many)) refl)
        ∙ unkeyed kept high

  pub makes : (cells : ℕ) (kept : Val) (before after : List Val) → after ≡ before ++ replicate cells kept →
      kept.high ≡ 0 → f ≡ length before → cells ≡ 2 * m → 0 < m → Adds found map before after
  makes cells kept before after whole high start count some =
      let many : 2 * m ≤ cells = omega (arith, count) in
      record {
        cells = made-cells cells kept whole start count;
        empty = made-empty cells kept before after whole high start many some;
        free = made-free cells kept before after whole high start many some;
        near = made-near cells kept before after whole high start many some;
      }
