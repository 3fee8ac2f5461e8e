-- The items of a map, place by place, and those of an ordered map, one above the other.
use Rattle.std.proofs.Common.{◌≡◌, ◌≢◌, ◌∙◌, ◌++◌, ◌∷◌, ℕ, ◌+◌, ◌-◌, ◌*◌, ◌^◌, ◌<◌, ◌≤◌, Bool, true, false, List, [], ap, arith, cond, get_or, length, nat_lt, refl, sym, subst, ◌⊎◌, inl, inr}
use Rattle.std.specs.Prelude.{AllPairs, Contains, Option, None, Some, is_some}
use Rattle.std.proofs.lemmas.Bool.{cases_eq, cases_lt}
use Rattle.std.proofs.lemmas.List.{length_push}
use Rattle.std.proofs.lemmas.List.Elements.{Contains-append_left, Contains-get_or, Contains-push, Contains-push_cases}
use Rattle.std.proofs.lemmas.List.Quantifiers.{all_pairs_push}
use Rattle.dstm_model.specs.declared.value.Val.{Val}
use Rattle.dstm_model.specs.Map.{value_at}
use Rattle.dstm_structures.specs.Items.{AreItems, AreItemsAbove, Counts, Lists, ListsAbove, ListsInOrder, ListsPlace, Stands, if_above, with_item}
use Rattle.dstm_structures.specs.Maps.{Seeks, at_place, item_of, key_of, place_in, values_in}
use Rattle.dstm_structures.specs.Ordered.{IsFirst, IsFirstAbove, IsInOrder, TellsAbove, TellsFirst, TellsInOrder}
use Rattle.dstm_structures.specs.Places.{is_key}
use Rattle.dstm_structures.specs.declared.map.HashMap.{HashMap}
use Rattle.dstm_structures.specs.declared.ordered.OrderedMap.{OrderedMap}
use Rattle.dstm_structures.proofs.Doing.{Reads}
use Rattle.dstm_structures.proofs.Maps.{place-holds}
use Rattle.dstm_structures.proofs.Places.{is_key-same, key_is, none_not, some_is}

lower : (a b : ℕ) → a < b → nat_lt a b ≡ true
lower a b less = grind (arith, less)

not_lower : (a b : ℕ) → b ≤ a → nat_lt a b ≡ false
not_lower a b high = grind (arith, high)

-- ---- the key that is found at a place

module _ {V : Type 0} (map : HashMap V) where
  abbrev n : ℕ
  n = map.cells.capacity

  abbrev first : ℕ
  first = map.cells.first

  module _ (at o : ℕ) (held : Option ℕ) (before mid : List Val) (o_is : o ≡ first + 2 * at)
      (reads : Reads key_of o held before mid) where
    -- a key that is found there is the one that was read
    read_there : (key : ℕ) → place_in first n before key ≡ Some at → held ≡ Some key
    read_there key place =
        reads.is ∙ ap (λ (x : ℕ). key_of (value_at before x)) o_is
        ∙ (place-holds first n map.cells.some before key at place).0

    pub stands-none : held ≡ None → Stands map at None before mid
    stands-none none = record {
      is = λ key place. sym none ∙ read_there key place;
      there = λ key e. absurd (none_not key e);
      same = reads.same;
    }

    module _ (key : ℕ) (place : Option ℕ) (after : List Val) (held_is : held ≡ Some key)
        (seeks : Seeks map key place mid after) where
      sought : place_in first n before key ≡ place
      sought = ap (λ (xs : List Val). place_in first n xs key) (sym reads.same) ∙ seeks.is

      pub stands-here : is_key at place ≡ true → Stands map at (Some key) before after
      stands-here it = record {
        is = λ k found. sym held_is ∙ read_there k found;
        there = λ k e.
            ap (place_in first n before) (sym (some_is key k e)) ∙ sought ∙ key_is at place it;
        same = seeks.same ∙ reads.same;
      }

      pub stands-other : is_key at place ≡ false → Stands map at None before after
      stands-other other = record {
        is = λ k found. absurd (never k found (some_is key k (sym held_is ∙ read_there k found)));
        there = λ k e. absurd (none_not k e);
        same = seeks.same ∙ reads.same;
      }
        where
          never : (k : ℕ) → place_in first n before k ≡ Some at → key ≡ k → ⊥
          never k found same =
              let there : place ≡ Some at = sym sought ∙ ap (place_in first n before) same ∙ found in
              let both : true ≡ false = sym (is_key-same at) ∙ ap (is_key at) (sym there) ∙ other in
              absurd (cc)

-- ---- the items of a map

module _ {V : Type 0} (found : Val → V) (map : HashMap V) where
  abbrev m : ℕ
  m = map.cells.capacity

  abbrev f : ℕ
  f = map.cells.first

  -- these are the items of so many places
  pub record Listing (passed : ℕ) (items : List (ℕ × V)) (before after : List Val) : Type 0 where
    pub has : (key at : ℕ) → at < passed → place_in f m before key ≡ Some at →
        Contains items (key, values_in found f before at)
    pub only : (key : ℕ) (value : V) → Contains items (key, value) →
        (at : ℕ) × (at < passed) × (place_in f m before key ≡ Some at) × (values_in found f before at ≡ value)
    pub once : AllPairs (λ one other. one.0 ≢ other.0) items
    pub same : after ≡ before

  -- so many items the places have that were passed
  pub record Counting (passed count : ℕ) (before after : List Val) : Type 0 where
    pub items : List (ℕ × V)
    pub lists : Listing passed items before after
    pub is : count ≡ length items

  pub list-start : (values : List Val) → Listing 0 [] values values
  list-start values = record {
    has = λ key at below place. absurd (omega (arith, below));
    only = λ key value c. absurd (omega (arith, c.1));
    once = λ i j d less within. absurd (omega (arith, within));
    same = refl;
  }

  list-on : (passed : ℕ) (items : List (ℕ × V)) (key : Option ℕ) (before after : List Val) →
      Listing passed items before before → Stands map passed key before after →
      Listing (passed + 1) (with_item items key (values_in found f before passed)) before after
  list-on passed items None before after l s = record {
    has = λ key at below place. each key at below place (cases_eq at passed);
    only = λ key value c.
        let o = l.only key value c in (o.0, omega (arith, o.1), o.2, o.3);
    once = l.once;
    same = s.same;
  }
    where
      each : (key at : ℕ) → at < passed + 1 → place_in f m before key ≡ Some at → (at ≡ passed) ⊎ (at ≡ passed → ⊥) →
          Contains items (key, values_in found f before at)
      each key at below place (inl last) = absurd (none_not key (s.is key (place ∙ ap Some last)))
      each key at below place (inr apart) = l.has key at (omega (arith, below, apart)) place
  list-on passed items (Some here) before after l s = record {
    has = λ key at below place. each key at below place (cases_eq at passed);
    only = λ key value c. from key value (Contains-push_cases items (here, v) (key, value) c);
    once = all_pairs_push (λ one other. one.0 ≢ other.0) items (here, v) l.once
        (λ k d less e. twice (get_or items k d) (Contains-get_or items k d less) e);
    same = s.same;
  }
    where
      v : V
      v = values_in found f before passed

      each : (key at : ℕ) → at < passed + 1 → place_in f m before key ≡ Some at → (at ≡ passed) ⊎ (at ≡ passed → ⊥) →
          Contains (items ++ (here, v) ∷ []) (key, values_in found f before at)
      each key at below place (inl last) =
          let same : here ≡ key = some_is here key (s.is key (place ∙ ap Some last)) in
          subst (λ (x : ℕ × V). Contains (items ++ (here, v) ∷ []) x)
          (ap (λ (k : ℕ). (k, v)) same ∙ ap (λ (a : ℕ). (key, values_in found f before a)) (sym last))
          (Contains-push items (here, v))
      each key at below place (inr apart) =
          Contains-append_left items ((here, v) ∷ []) (key, values_in found f before at)
          (l.has key at (omega (arith, below, apart)) place)

      from : (key : ℕ) (value : V) → Contains items (key, value) ⊎ ◌≡◌ {A = ℕ × V} (here, v) (key, value) →
          (at : ℕ) × (at < passed + 1) × (place_in f m before key ≡ Some at) × (values_in found f before at ≡ value)
      from key value (inl old) =
          let o = l.only key value old in (o.0, omega (arith, o.1), o.2, o.3)
      from key value (inr new) = (
        passed,
        omega arith,
        s.there key (ap (λ (x : ℕ × V). Some x.0) new),
        ap (λ (x : ℕ × V). x.1) new,
      )

      twice : (x : ℕ × V) → Contains items x → x.0 ≡ here → ⊥
      twice x c e =
          let o = l.only x.0 x.1 c in
          let at : o.0 ≡ passed =
          some_is o.0 passed (sym o.2 ∙ ap (place_in f m before) e ∙ s.there here refl) in
          omega (arith, o.1, at)

  pub list-next : (passed : ℕ) (old new : List (ℕ × V)) (before mid after : List Val) → Listing passed old before mid →
      ListsPlace found map passed old new mid after → Listing (passed + 1) new before after
  list-next passed old new before mid after l p =
      subst (λ (xs : List Val). ListsPlace found map passed old new xs after → Listing (passed + 1) new before after)
      (sym l.same) by p
    where
      by : ListsPlace found map passed old new before after → Listing (passed + 1) new before after
      by q =
          subst (λ (xs : List (ℕ × V)). Listing (passed + 1) xs before after) (sym q.is)
          (list-on passed old q.key before after
          (subst (λ (xs : List Val). Listing passed old before xs) l.same l) q.stands)

  pub list-end : (passed : ℕ) (items : List (ℕ × V)) (before after : List Val) → m ≤ passed →
      Listing passed items before after → Lists found map items before after
  list-end passed items before after end l = record {
    all = λ key value is. by key value (place_in f m before key) refl is;
    only = λ key value c.
        let o = l.only key value c in ap (at_place (values_in found f before)) o.2 ∙ ap Some o.3;
    once = l.once;
    same = l.same;
  }
    where
      by : (key : ℕ) (value : V) (place : Option ℕ) → place_in f m before key ≡ place →
          at_place (values_in found f before) place ≡ Some value → Contains items (key, value)
      by key value None place is = absurd (none_not value is)
      by key value (Some at) place is =
          subst (λ (x : V). Contains items (key, x)) (some_is (values_in found f before at) value is)
          (l.has key at
          (omega (arith, (place-holds f m map.cells.some before key at place).1, end)) place)

  -- ---- how many there are

  pub count-start : (values : List Val) → Counting 0 0 values values
  count-start values = record { items = []; lists = list-start values; is = refl }

  counted : (items : List (ℕ × V)) (key : Option ℕ) (value : V) →
      length (with_item items key value) ≡ length items + cond (is_some key) 1 0
  counted items None value = omega arith
  counted items (Some key) value = length_push items (key, value) ∙ omega arith

  pub count-next : (passed count more : ℕ) (key : Option ℕ) (before mid after : List Val) →
      more ≡ cond (is_some key) 1 0 → Counting passed count before mid → Stands map passed key mid after →
      Counting (passed + 1) (count + more) before after
  count-next passed count more key before mid after more_is c s = record {
    items = with_item c.items key v;
    lists = list-next passed c.items (with_item c.items key v) before mid after c.lists
        (record { key = key; stands = s; is = refl });
    is = ap (λ (x : ℕ). x + more) c.is ∙ ap (λ (x : ℕ). length c.items + x) more_is ∙ sym (counted c.items key v);
  }
    where
      v : V
      v = values_in found f mid passed

  pub count-end : (passed count : ℕ) (before after : List Val) → m ≤ passed → Counting passed count before after →
      Counts found map count before after
  count-end passed count before after end c = record {
    items = c.items;
    lists = list-end passed c.items before after end c.lists;
    is = c.is;
  }

  -- ---- what is added to a list

  pub place-none : (at : ℕ) (items : List (ℕ × V)) (key : Option ℕ) (before after : List Val) → key ≡ None →
      Stands map at key before after → ListsPlace found map at items items before after
  place-none at items key before after none s = record {
    key = key;
    stands = s;
    is = sym (ap (λ (k : Option ℕ). with_item items k (values_in found f before at)) none);
  }

  pub place-some : (at key o : ℕ) (value : V) (old new : List (ℕ × V)) (told : Option ℕ) (before mid after : List Val) →
      o ≡ f + 2 * at + 1 → told ≡ Some key → new ≡ old ++ (key, value) ∷ [] → Stands map at told before mid →
      Reads found o value mid after → ListsPlace found map at old new before after
  place-some at key o value old new told before mid after o_is is grown s reads = record {
    key = told;
    stands = record { is = s.is; there = s.there; same = reads.same ∙ s.same };
    is = grown
        ∙ ap (λ (x : V). old ++ (key, x) ∷ [])
        (reads.is ∙ ap (λ (x : ℕ). found (value_at mid x)) o_is
        ∙ ap (λ (xs : List Val). values_in found f xs at) s.same)
        ∙ sym (ap (λ (k : Option ℕ). with_item old k (values_in found f before at)) is);
  }

-- ---- the items of an ordered map

-- how many keys there may be from this item's on
abbrev pub left_above : {V : Type 0} → Option (ℕ × V) → ℕ
left_above None = 0
left_above (Some entry) = 2 ^ 64 - entry.0

pub less_left : {V : Type 0} (key : ℕ) (above : Option (ℕ × V)) → key < 2 ^ 64 →
    left_above (if_above key above) < 2 ^ 64 - key
less_left key None fits = omega (arith, fits)
less_left key (Some entry) fits = by (cases_lt key entry.0)
  where
    by : (key < entry.0) ⊎ (entry.0 ≤ key) → left_above (if_above key (Some entry)) < 2 ^ 64 - key
    by (inl less) =
        subst (λ (b : Bool). left_above (cond b (Some entry) None) < 2 ^ 64 - key) (sym (lower key entry.0 less))
        (omega (arith, less, fits))
    by (inr high) =
        subst (λ (b : Bool). left_above (cond b (Some entry) None) < 2 ^ 64 - key) (sym (not_lower key entry.0 high))
        (omega (arith, fits))

module _ {V : Type 0} (found : Val → V) (map : OrderedMap V) where
  -- a key is not below that of an item to which a walk has come
  abbrev IsFrom : ℕ → Option (ℕ × V) → Type 0
  IsFrom key None = ⊥
  IsFrom key (Some entry) = entry.0 ≤ key

  -- this item is there
  abbrev IsThere : Option (ℕ × V) → List Val → Type 0
  IsThere None values = Unit {0}
  IsThere (Some entry) values = item_of found map.map values entry.0 ≡ Some entry.1

  -- these items are before it
  abbrev AreBefore : List (ℕ × V) → Option (ℕ × V) → Type 0
  AreBefore items None = Unit {0}
  AreBefore items (Some entry) = (key : ℕ) (value : V) → Contains items (key, value) → key < entry.0

  pub record Walked (items : List (ℕ × V)) (next : Option (ℕ × V)) (values : List Val) : Type 0 where
    pub has : (key : ℕ) (value : V) → item_of found map.map values key ≡ Some value →
        Contains items (key, value) ⊎ IsFrom key next
    pub only : (key : ℕ) (value : V) → Contains items (key, value) → item_of found map.map values key ≡ Some value
    pub rising : AllPairs (λ one other. one.0 < other.0) items
    pub there : IsThere next values
    pub passed : AreBefore items next

  -- a walk over the items in order has passed these, and comes to this one, or to the end
  abbrev pub Walking : List (ℕ × V) → Option (ℕ × V) → List Val → List Val → Type 0
  Walking items next = TellsInOrder map (Walked items next)

  pub walk-start : (next : Option (ℕ × V)) (before after : List Val) → TellsFirst found map next before after →
      Walking [] next before after
  walk-start next before after t = record { is = λ order. by next (t.is order); same = t.same }
    where
      by : (o : Option (ℕ × V)) → IsFirst found map o before → Walked [] o before
      by None none = record {
        has = λ key value is. absurd (none_not value (sym (none key) ∙ is));
        only = λ key value c. absurd (omega (arith, c.1));
        rising = λ i j d less within. absurd (omega (arith, within));
        there = tt;
        passed = tt;
      }
      by (Some entry) is_first = record {
        has = λ key value is. from key value is (cases_lt key entry.0);
        only = λ key value c. absurd (omega (arith, c.1));
        rising = λ i j d less within. absurd (omega (arith, within));
        there = is_first.0;
        passed = λ key value c. absurd (omega (arith, c.1));
      }
        where
          from : (key : ℕ) (value : V) → item_of found map.map before key ≡ Some value → (key < entry.0) ⊎ (entry.0 ≤ key) →
              Contains {X = ℕ × V} [] (key, value) ⊎ (entry.0 ≤ key)
          from key value is (inl less) = absurd (none_not value (sym (is_first.1 key less) ∙ is))
          from key value is (inr high) = inr high

  module _ (items : List (ℕ × V)) (entry : ℕ × V) (values : List Val) (w : Walked items (Some entry) values) where
    -- an item that was passed, or come to, is passed now
    moved : (key : ℕ) (value : V) → item_of found map.map values key ≡ Some value →
        Contains items (key, value) ⊎ (entry.0 ≤ key) → Contains (items ++ entry ∷ []) (key, value) ⊎ (entry.0 < key)
    moved key value is (inl old) = inl (Contains-append_left items (entry ∷ []) (key, value) old)
    moved key value is (inr high) = by (cases_eq key entry.0)
      where
        by : (key ≡ entry.0) ⊎ (key ≡ entry.0 → ⊥) → Contains (items ++ entry ∷ []) (key, value) ⊎ (entry.0 < key)
        by (inl same) =
            let value_is : entry.1 ≡ value =
            some_is entry.1 value (sym w.there ∙ ap (item_of found map.map values) (sym same) ∙ is) in
            inl (subst (λ (x : ℕ × V). Contains (items ++ entry ∷ []) x)
            (ap (λ (v : V). (entry.0, v)) value_is ∙ ap (λ (k : ℕ). (k, value)) (sym same)) (Contains-push items entry))
        by (inr apart) = inr (omega (arith, high, apart))

    only_moved : (key : ℕ) (value : V) → Contains (items ++ entry ∷ []) (key, value) →
        item_of found map.map values key ≡ Some value
    only_moved key value c = by (Contains-push_cases items entry (key, value) c)
      where
        by : Contains items (key, value) ⊎ (entry ≡ (key, value)) → item_of found map.map values key ≡ Some value
        by (inl old) = w.only key value old
        by (inr new) = subst (λ (x : ℕ × V). item_of found map.map values x.0 ≡ Some x.1) new w.there

    rising_moved : AllPairs (λ one other. one.0 < other.0) (items ++ entry ∷ [])
    rising_moved =
        all_pairs_push (λ one other. one.0 < other.0) items entry w.rising
        (λ k d less. w.passed (get_or items k d).0 (get_or items k d).1 (Contains-get_or items k d less))

    step : (above : Option (ℕ × V)) → IsFirstAbove found map entry.0 above values →
        Walked (items ++ entry ∷ []) (if_above entry.0 above) values
    step None none = record {
      has = λ key value is. by key value is (moved key value is (w.has key value is));
      only = only_moved;
      rising = rising_moved;
      there = tt;
      passed = tt;
    }
      where
        by : (key : ℕ) (value : V) → item_of found map.map values key ≡ Some value →
            Contains (items ++ entry ∷ []) (key, value) ⊎ (entry.0 < key) →
            Contains (items ++ entry ∷ []) (key, value) ⊎ ⊥
        by key value is (inl c) = inl c
        by key value is (inr high) = absurd (none_not value (sym (none key high) ∙ is))
    step (Some next) above =
        subst (λ (b : Bool). Walked (items ++ entry ∷ []) (cond b (Some next) None) values) (sym (lower entry.0 next.0 above.1))
        (record {
          has = λ key value is. by key value is (moved key value is (w.has key value is));
          only = only_moved;
          rising = rising_moved;
          there = above.0;
          passed = λ key value c. before_next key value (Contains-push_cases items entry (key, value) c);
        })
      where
        between : (key : ℕ) (value : V) → item_of found map.map values key ≡ Some value → entry.0 < key →
            (key < next.0) ⊎ (next.0 ≤ key) → Contains (items ++ entry ∷ []) (key, value) ⊎ (next.0 ≤ key)
        between key value is high (inl less) = absurd (none_not value (sym (above.2 key high less) ∙ is))
        between key value is high (inr from) = inr from

        by : (key : ℕ) (value : V) → item_of found map.map values key ≡ Some value →
            Contains (items ++ entry ∷ []) (key, value) ⊎ (entry.0 < key) →
            Contains (items ++ entry ∷ []) (key, value) ⊎ (next.0 ≤ key)
        by key value is (inl c) = inl c
        by key value is (inr high) = between key value is high (cases_lt key next.0)

        before_next : (key : ℕ) (value : V) → Contains items (key, value) ⊎ (entry ≡ (key, value)) → key < next.0
        before_next key value (inl old) = omega (arith, w.passed key value old, above.1)
        before_next key value (inr new) =
            let same : entry.0 ≡ key = ap (λ (x : ℕ × V). x.0) new in omega (arith, same, above.1)

  pub walk-next : (items : List (ℕ × V)) (entry : ℕ × V) (here above next : Option (ℕ × V)) (before mid after : List Val) →
      here ≡ Some entry → next ≡ if_above entry.0 above → Walking items here before mid →
      TellsAbove found map entry.0 above mid after → Walking (items ++ entry ∷ []) next before after
  walk-next items entry here above next before mid after here_is next_is w t = record {
    is = λ order.
        subst (λ (x : Option (ℕ × V)). Walked (items ++ entry ∷ []) x before) (sym next_is)
        (step items entry before
        (subst (λ (x : Option (ℕ × V)). Walked items x before) here_is (w.is order)) above (told order));
    same = t.same ∙ w.same;
  }
    where
      told : IsInOrder map before → IsFirstAbove found map entry.0 above before
      told order =
          subst (λ (xs : List Val). IsInOrder map xs → IsFirstAbove found map entry.0 above xs) w.same t.is order

  pub walk-end : (items : List (ℕ × V)) (next : Option (ℕ × V)) (before after : List Val) → next ≡ None →
      Walking items next before after → ListsInOrder found map items before after
  walk-end items next before after none w = record { is = λ order. at_end (w.is order); same = w.same }
    where
      no_more : (key : ℕ) (value : V) → Contains items (key, value) ⊎ ⊥ → Contains items (key, value)
      no_more key value (inl c) = c
      no_more key value (inr never) = absurd never

      at_end : Walked items next before → AreItems found map items before
      at_end walked =
          let end = subst (λ (x : Option (ℕ × V)). Walked items x before) none walked in
          record {
            all = λ key value is. no_more key value (end.has key value is);
            only = end.only;
            rising = end.rising;
          }

  -- ---- the items above a key

  -- of the items above a key all up to this last one are listed
  pub record WalkedAbove (low last : ℕ) (items : List (ℕ × V)) (values : List Val) : Type 0 where
    pub has : (key : ℕ) (value : V) → low < key → item_of found map.map values key ≡ Some value →
        Contains items (key, value) ⊎ (last < key)
    pub only : (key : ℕ) (value : V) → Contains items (key, value) →
        (low < key) × (item_of found map.map values key ≡ Some value)
    pub up_to : (key : ℕ) (value : V) → Contains items (key, value) → key ≤ last
    pub from : low ≤ last
    pub rising : AllPairs (λ one other. one.0 < other.0) items

  abbrev pub WalkingAbove : (low last : ℕ) → List (ℕ × V) → List Val → List Val → Type 0
  WalkingAbove low last items = TellsInOrder map (WalkedAbove low last items)

  pub above-start : (low : ℕ) (values : List Val) → WalkingAbove low low [] values values
  above-start low values = record {
    is = λ order. record {
      has = λ key value more is. inr more;
      only = λ key value c. absurd (omega (arith, c.1));
      up_to = λ key value c. absurd (omega (arith, c.1));
      from = omega arith;
      rising = λ i j d less within. absurd (omega (arith, within));
    };
    same = refl;
  }

  -- one more
  module _ (low last : ℕ) (items : List (ℕ × V)) (entry : ℕ × V) (values : List Val)
      (w : WalkedAbove low last items values) (above : IsFirstAbove found map last (Some entry) values) where
    has_more : (key : ℕ) (value : V) → low < key → item_of found map.map values key ≡ Some value →
        Contains (items ++ entry ∷ []) (key, value) ⊎ (entry.0 < key)
    has_more key value more is = by (w.has key value more is)
      where
        at_entry : (key ≡ entry.0) ⊎ (key ≡ entry.0 → ⊥) → last < key →
            Contains (items ++ entry ∷ []) (key, value) ⊎ (entry.0 < key)
        at_entry (inl same) later =
            let value_is : entry.1 ≡ value =
            some_is entry.1 value (sym above.0 ∙ ap (item_of found map.map values) (sym same) ∙ is) in
            inl (subst (λ (x : ℕ × V). Contains (items ++ entry ∷ []) x)
            (ap (λ (v : V). (entry.0, v)) value_is ∙ ap (λ (k : ℕ). (k, value)) (sym same)) (Contains-push items entry))
        at_entry (inr apart) later = beyond (cases_lt key entry.0)
          where
            beyond : (key < entry.0) ⊎ (entry.0 ≤ key) → Contains (items ++ entry ∷ []) (key, value) ⊎ (entry.0 < key)
            beyond (inl less) = absurd (none_not value (sym (above.2 key later less) ∙ is))
            beyond (inr high) = inr (omega (arith, high, apart))

        by : Contains items (key, value) ⊎ (last < key) → Contains (items ++ entry ∷ []) (key, value) ⊎ (entry.0 < key)
        by (inl old) = inl (Contains-append_left items (entry ∷ []) (key, value) old)
        by (inr later) = at_entry (cases_eq key entry.0) later

    only_more : (key : ℕ) (value : V) → Contains (items ++ entry ∷ []) (key, value) →
        (low < key) × (item_of found map.map values key ≡ Some value)
    only_more key value c = by (Contains-push_cases items entry (key, value) c)
      where
        by : Contains items (key, value) ⊎ (entry ≡ (key, value)) →
            (low < key) × (item_of found map.map values key ≡ Some value)
        by (inl old) = w.only key value old
        by (inr new) =
            subst (λ (x : ℕ × V). (low < x.0) × (item_of found map.map values x.0 ≡ Some x.1)) new
            (omega (arith, w.from, above.1), above.0)

    up_to_more : (key : ℕ) (value : V) → Contains (items ++ entry ∷ []) (key, value) → key ≤ entry.0
    up_to_more key value c = by (Contains-push_cases items entry (key, value) c)
      where
        by : Contains items (key, value) ⊎ (entry ≡ (key, value)) → key ≤ entry.0
        by (inl old) = omega (arith, w.up_to key value old, above.1)
        by (inr new) = let same : entry.0 ≡ key = ap (λ (x : ℕ × V). x.0) new in omega (arith, same)

    rising_more : AllPairs (λ one other. one.0 < other.0) (items ++ entry ∷ [])
    rising_more =
        all_pairs_push (λ one other. one.0 < other.0) items entry w.rising
        (λ k d less.
        let before = w.up_to (get_or items k d).0 (get_or items k d).1 (Contains-get_or items k d less) in
        omega (arith, before, above.1))

    walked_more : WalkedAbove low entry.0 (items ++ entry ∷ []) values
    walked_more = record {
      has = has_more;
      only = only_more;
      up_to = up_to_more;
      from = omega (arith, w.from, above.1);
      rising = rising_more;
    }

  -- what stands above was told where the walk has come to
  told-above : (low last : ℕ) (items : List (ℕ × V)) (above : Option (ℕ × V)) (before mid after : List Val) →
      WalkingAbove low last items before mid → TellsAbove found map last above mid after → IsInOrder map before →
      IsFirstAbove found map last above before
  told-above low last items above before mid after w t order =
      subst (λ (xs : List Val). IsInOrder map xs → IsFirstAbove found map last above xs) w.same t.is order

  pub above-next : (low last : ℕ) (items : List (ℕ × V)) (entry : ℕ × V) (before mid after : List Val) →
      WalkingAbove low last items before mid → TellsAbove found map last (Some entry) mid after →
      WalkingAbove low entry.0 (items ++ entry ∷ []) before after
  above-next low last items entry before mid after w t = record {
    is = λ order.
        walked_more low last items entry before (w.is order)
        (told-above low last items (Some entry) before mid after w t order);
    same = t.same ∙ w.same;
  }

  -- no key is above the last one
  pub above-none : (low last most : ℕ) (items : List (ℕ × V)) (before mid after : List Val) → length items ≤ most →
      WalkingAbove low last items before mid → TellsAbove found map last None mid after →
      ListsAbove found map low most items before after
  above-none low last most items before mid after few w t = record {
    is = λ order. at_end (w.is order) (told-above low last items None before mid after w t order);
    same = t.same ∙ w.same;
  }
    where
      at_end : WalkedAbove low last items before → IsFirstAbove found map last None before →
          AreItemsAbove found map low most items before
      at_end walked none = record {
        few = few;
        all = λ key value more is. by key value is (walked.has key value more is);
        only = walked.only;
        rising = walked.rising;
      }
        where
          by : (key : ℕ) (value : V) → item_of found map.map before key ≡ Some value →
              Contains items (key, value) ⊎ (last < key) →
              Contains items (key, value)
              ⊎ ((length items ≡ most) × ((k : ℕ) (other : V) → Contains items (k, other) → k < key))
          by key value is (inl c) = inl c
          by key value is (inr later) = absurd (none_not value (sym (none key later) ∙ is))

  -- so many are listed
  pub above-full : (low last most : ℕ) (items : List (ℕ × V)) (before after : List Val) → length items ≡ most →
      WalkingAbove low last items before after → ListsAbove found map low most items before after
  above-full low last most items before after full w = record { is = λ order. at_end (w.is order); same = w.same }
    where
      at_end : WalkedAbove low last items before → AreItemsAbove found map low most items before
      at_end walked = record {
        few = omega (arith, full);
        all = λ key value more is. by key value (walked.has key value more is);
        only = walked.only;
        rising = walked.rising;
      }
        where
          by : (key : ℕ) (value : V) → Contains items (key, value) ⊎ (last < key) →
              Contains items (key, value)
              ⊎ ((length items ≡ most) × ((k : ℕ) (other : V) → Contains items (k, other) → k < key))
          by key value (inl c) = inl c
          by key value (inr later) =
              inr (full, λ k other c. let before = walked.up_to k other c in omega (arith, before, later))
