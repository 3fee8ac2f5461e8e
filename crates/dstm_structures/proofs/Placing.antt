-- What putting a key into an ordered map does and taking one out, by what its steps do.
use Rattle.std.proofs.Common.{◌≡◌, ◌∙◌, ◌++◌, ℕ, ◌+◌, ◌*◌, ◌^◌, ◌<◌, ◌≤◌, Bool, List, ap, arith, cond, length, get_or-set_other, refl, sym, subst, ◌⊎◌, inl, inr, nat_lt}
use Rattle.std.specs.Prelude.{Option, None, Some, replicate}
use Rattle.std.proofs.lemmas.Bool.{cases_eq}
use Rattle.std.proofs.Math.Nat.{div-eq_of_lt}
use Rattle.dstm_model.specs.declared.value.Val.{Val}
use Rattle.dstm_model.specs.Map.{no_value, value_at}
use Rattle.dstm_structures.specs.Places.{is_key}
use Rattle.dstm_structures.specs.Maps.{ClearsAll, Inserts, InsertsAt, Seeks, Tells, WastesNone, at_place, item_of, key_at, key_of, keys_in, place_in, reach_in, reach_of, values_in}
use Rattle.dstm_structures.specs.Maps as maps
use Rattle.dstm_structures.specs.Ordered.{Adding, Adds, IsInOrder, Looks, Makes, PopsEnd, Puts, Removes, Takes, TellsEnd, WastesNoFork, entry_at, entry_of}
use Rattle.dstm_structures.specs.Orders.{Trie, tip, Has, HoldsIn, IsBare, IsOrdered, IsOrderedBy, forks_in, low_of, order_end, root_in, words_of}
use Rattle.dstm_structures.specs.Tips.{AddsKey, DropsKey, FreeFork, Gains, KeepsButOrder, LeavesNone, LeavesRest, Loses, NoFreeFork, Uses}
use Rattle.dstm_structures.specs.declared.map.Placed.{Placed}
use Rattle.dstm_structures.specs.declared.map.Placed.TheVariants.{New, Instead, Full}
use Rattle.dstm_structures.specs.declared.ordered.OrderedMap.{OrderedMap}
use Rattle.dstm_structures.proofs.Counting.{not-on-all}
use Rattle.dstm_structures.proofs.Doing.{Reads, Writes}
use Rattle.dstm_structures.proofs.Mapping.{made-cells, made-each, made-empty, made-free, made-near, made-unplaced, takes-out, tells-some}
use Rattle.dstm_structures.proofs.Mapping as mapping
use Rattle.dstm_structures.proofs.Maps.{item-same, place-holds, place-kept}
use Rattle.dstm_structures.proofs.InOrder.{forks-apart, holds-by, no-place, order-apart}
use Rattle.dstm_structures.proofs.Places.{none_not, some_is}
use Rattle.dstm_structures.proofs.Tries.{uses_or_not}

module _ {V : Type 0} (found : Val → V) (map : OrderedMap V) where
  abbrev f : ℕ
  f = map.map.cells.first

  abbrev n : ℕ
  n = map.map.cells.capacity

  some : 0 < n
  some = map.map.cells.some

  -- ---- a map is made

  pub makes : (cells : ℕ) (kept : Val) (before after : List Val) → after ≡ before ++ replicate cells kept →
      kept.low ≡ 0 → kept.high ≡ 0 → f ≡ length before → cells ≡ 3 * n + 1 → Adds found map before after
  makes cells kept before after whole low high start count =
      let many : 2 * n ≤ cells = omega (arith, count) in
      record {
        cells = made-cells cells kept whole start count;
        empty = made-empty found map.map cells kept before after whole high start many some;
        order = inl (record {
          root = ap low_of (made-each found map.map cells kept before after whole high start many some (2 * n) (f + 2 * n)
              (omega (arith, count)) refl) ∙ low;
          none = made-unplaced found map.map cells kept before after whole high start many some;
        });
        free = made-free found map.map cells kept before after whole high start many some;
        near = made-near found map.map cells kept before after whole high start many some;
        forks = λ at here. ap (λ (v : Val). (words_of v).1)
            (made-each found map.map cells kept before after whole high start many some (2 * n + 1 + at) (f + 2 * n + 1 + at)
            (omega (arith, count, here)) (omega arith)) ∙ high;
      }

  -- ---- a value is set

  -- the objects around a map and its order are around the map
  outside : (o : ℕ) → (o < f) ⊎ (order_end map.map.cells ≤ o) → (o < f) ⊎ (f + 2 * n ≤ o)
  outside o (inl low) = inl low
  outside o (inr high) = inr (omega (arith, high))

  around-order : (o : ℕ) → (o < f) ⊎ (order_end map.map.cells ≤ o) → (o < f + 2 * n) ⊎ (f + 3 * n + 1 ≤ o)
  around-order o (inl low) = inl (omega (arith, low))
  around-order o (inr high) = inr high

  pub puts-instead : (key gap p : ℕ) (had value : V) (before mid after : List Val) → f + 2 * n ≤ length before → gap < n →
      p ≡ f + 2 * gap + 1 → Seeks map.map key (Some gap) before mid → Writes found p had value mid after →
      Puts found map key value (Instead had) before after
  puts-instead key gap p had value before mid after size here p_is s writes =
      let done = mapping.puts-instead found map.map key gap p had value before mid after some size here p_is s writes in
      record {
        was = done.was;
        is = done.is;
        others = done.others;
        around = λ o out. done.around o (outside o out);
        order = order-apart f n some found before after (λ o from until out. kept o (λ e. out gap here (e ∙ p_is)));
        wastes = done.wastes;
        forks = forks-apart f n some found before after (λ o from until out. kept o (λ e. out gap here (e ∙ p_is)));
      }
    where
      kept : (o : ℕ) → (o ≡ p → ⊥) → value_at after o ≡ value_at before o
      kept o apart =
          ap (λ (xs : List Val). value_at xs o) writes.after_is ∙ get_or-set_other mid p o writes.kept no_value apart
          ∙ ap (λ (xs : List Val). value_at xs o) s.same

  -- ---- what the order's cells do not change

  module _ (before after : List Val) (others : KeepsButOrder map.map.cells before after) where
    places-stay : (k : ℕ) → place_in f n after k ≡ place_in f n before k
    places-stay k =
        place-kept found f n some before after k
        (λ q below. ap (λ (v : Val). is_key k (key_of v)) (others (f + 2 * q) (inl (omega (arith, below)))))
        (λ h below. ap (λ (v : Val). cond (nat_lt (reach_of v) n) (reach_of v) n)
        (others (f + 2 * h) (inl (omega (arith, below)))))

    items-stay : (k : ℕ) → item_of found map.map after k ≡ item_of found map.map before k
    items-stay k =
        item-same found f n some before after k (places-stay k)
        (λ q at. ap found (others (f + 2 * q + 1) (inl (omega (arith, (place-holds f n some before k q at).1)))))

    wastes-stay : WastesNone map.map before → WastesNone map.map after
    wastes-stay none at k here held =
        places-stay k ∙ none at k here (sym (ap key_of (others (f + 2 * at) (inl (omega (arith, here))))) ∙ held)

  -- ---- a key is added

  module _ (key at cell : ℕ) (value : V) (before mid after : List Val) (fits : key < 2 ^ 64)
      (absent : place_in f n before key ≡ None) (free : (forks_in f n before cell).1 ≡ 0)
      (put : InsertsAt found map.map key at value before mid) (a : AddsKey map.map.cells key at cell mid after) where
    -- the order is as it was, until the key is added to it
    root-stays : root_in f n mid ≡ root_in f n before
    root-stays = ap low_of (put.makes.around (f + 2 * n) (inr (omega arith)))

    forks-stay : (p : ℕ) → forks_in f n mid p ≡ forks_in f n before p
    forks-stay p = ap words_of (put.makes.around (f + 2 * n + 1 + p) (inr (omega arith)))

    here : keys_in f mid at ≡ Some key
    here = (place-holds f n some mid key at put.there).0

    inside : at < n
    inside = (place-holds f n some mid key at put.there).1

    -- where keys are found in the end
    placed-here : place_in f n after key ≡ Some at
    placed-here = places-stay mid after a.others key ∙ put.there

    placed-other : (k : ℕ) → (k ≡ key → ⊥) → place_in f n after k ≡ place_in f n before k
    placed-other k apart = places-stay mid after a.others k ∙ put.places k apart

    -- the first key makes a tip
    tip-added : IsBare f n before → IsOrderedBy f n (tip at key) after
    tip-added bare = record {
      root = a.alone (root-stays ∙ bare.root);
      held = (inside, (place-holds f n some after key at placed-here).0);
      split = div-eq_of_lt fits;
      there = λ p k h.
          subst (λ (x : ℕ). place_in f n after x ≡ Some p) h.1
          (subst (λ (x : ℕ). place_in f n after key ≡ Some x) h.0 placed-here);
      all = λ p k place. alone p k place (cases_eq k key);
    }
      where
        alone : (p k : ℕ) → place_in f n after k ≡ Some p → (k ≡ key) ⊎ (k ≡ key → ⊥) → Has p k (tip at key)
        alone p k place (inl same) =
            (some_is at p (sym placed-here ∙ ap (place_in f n after) (sym same) ∙ place), sym same)
        alone p k place (inr apart) = absurd (none_not p (sym (bare.none k) ∙ sym (placed-other k apart) ∙ place))

    -- any other one a fork
    module _ (t : Trie) (o : IsOrderedBy f n t before) where
      other : (p k : ℕ) → Has p k t → k ≡ key → ⊥
      other p k h same = none_not p (sym absent ∙ ap (place_in f n before) (sym same) ∙ o.there p k h)

      held-on : HoldsIn f n mid t
      held-on =
          holds-by n (keys_in f before) (keys_in f mid) (forks_in f n before) (forks_in f n mid)
          (λ p below. forks-stay p) t
          (λ p k h. (place-holds f n some mid k p (put.places k (other p k h) ∙ o.there p k h)).0) o.held

      grows : Gains map.map.cells key at cell 64 0 (root_in f n after) t mid after
      grows = a.gains t (root-stays ∙ o.root) held-on o.split other here (ap (λ (x : ℕ × ℕ). x.1) (forks-stay cell) ∙ free)

      trie-added : IsOrderedBy f n grows.grown after
      trie-added = record {
        root = grows.is;
        held = grows.held;
        split = grows.below;
        there = λ p k h. stands p k (grows.no_more p k h);
        all = λ p k place. has p k place (cases_eq k key);
      }
        where
          stands : (p k : ℕ) → Has p k t ⊎ ((p ≡ at) × (k ≡ key)) → place_in f n after k ≡ Some p
          stands p k (inl h) = placed-other k (other p k h) ∙ o.there p k h
          stands p k (inr is) =
              ap (place_in f n after) is.1 ∙ placed-here ∙ ap Some (sym is.0)

          has : (p k : ℕ) → place_in f n after k ≡ Some p → (k ≡ key) ⊎ (k ≡ key → ⊥) → Has p k grows.grown
          has p k place (inl same) =
              let is : at ≡ p = some_is at p (sym placed-here ∙ ap (place_in f n after) (sym same) ∙ place) in
              subst (λ (x : ℕ). Has p x grows.grown) (sym same) (subst (λ (x : ℕ). Has x key grows.grown) is grows.there)
          has p k place (inr apart) = grows.kept p k (o.all p k (sym (placed-other k apart) ∙ place))

      -- a fork on which the trie does not stand then is as it was
      still-free : ((c : ℕ) → c < n → (Uses c t → ⊥) → (forks_in f n before c).1 ≡ 0) → (c : ℕ) → c < n →
          (Uses c grows.grown → ⊥) → (forks_in f n after c).1 ≡ 0
      still-free spare c within off =
          ap (λ (w : ℕ × ℕ). w.1)
          (grows.stays c (λ used. off (grows.used c (inl used))) (λ e. off (grows.used c (inr e))) ∙ forks-stay c)
          ∙ spare c within (λ used. off (grows.used c (inl used)))

    order-added : IsOrdered f n before → IsOrdered f n after
    order-added (inl bare) = inr (tip at key, tip-added bare)
    order-added (inr (t, o)) = inr ((grows t o).grown, trie-added t o)

    forks-added : WastesNoFork map before → WastesNoFork map after
    forks-added (inl (bare, spare)) = inr (
      tip at key,
      tip-added bare,
      λ c within off. ap (λ (w : ℕ × ℕ). w.1) (a.unforked (root-stays ∙ bare.root) c ∙ forks-stay c) ∙ spare c within,
    )
    forks-added (inr (t, o, spare)) = inr ((grows t o).grown, trie-added t o, still-free t o spare)

    added : Makes found map key (Some value) None before after
    added = record {
      was = put.makes.was;
      is = items-stay mid after a.others key ∙ put.makes.is;
      others = λ k apart. items-stay mid after a.others k ∙ put.makes.others k apart;
      around = λ o out. a.others o (around-order o out) ∙ put.makes.around o (outside o out);
      order = order-added;
      wastes = λ none. wastes-stay mid after a.others (put.makes.wastes none);
      forks = forks-added;
    }

  pub adds-new : (key at cell : ℕ) (value : V) (before near mid after : List Val) → key < 2 ^ 64 →
      FreeFork map.map.cells cell before near → Inserts found map.map key value (Some at) near mid →
      AddsKey map.map.cells key at cell mid after → Adding found map key value New before after
  adds-new key at cell value before near mid after fits free inserts a absent =
      let put : InsertsAt found map.map key at value before mid =
      subst (λ (v : List Val). Inserts found map.map key value (Some at) v mid) free.same inserts absent in
      added key at cell value before mid after fits absent free.free put a

  -- where no fork is wasted, one is free
  never-taken : (values : List Val) → WastesNoFork map values → ((c : ℕ) → c < n → (forks_in f n values c).1 ≡ 0 → ⊥) → ⊥
  never-taken values (inl (bare, spare)) taken = taken 0 some (spare 0 some)
  never-taken values (inr (t, o, spare)) taken =
      not-on-all n (keys_in f values) (forks_in f n values) 64 0 t o.split o.held (λ c within. used c within (uses_or_not c t))
    where
      used : (c : ℕ) → c < n → Uses c t ⊎ (Uses c t → ⊥) → Uses c t
      used c within (inl stood) = stood
      used c within (inr off) = absurd (taken c within (spare c within off))

  -- no fork is free
  pub adds-none : (key : ℕ) (value : V) (before after : List Val) → NoFreeFork map.map.cells before after →
      Adding found map key value Full before after
  adds-none key value before after none absent = record {
    was = ap (at_place (values_in found f before)) absent;
    full = inr none.taken;
    places = λ spare at within. absurd (never-taken before spare none.taken);
    same = none.same;
  }

  -- no place is
  pub adds-full : (key cell : ℕ) (value : V) (before near after : List Val) → FreeFork map.map.cells cell before near →
      Inserts found map.map key value None near after → Adding found map key value Full before after
  adds-full key cell value before near after free inserts absent =
      let told = subst (λ (v : List Val). Inserts found map.map key value None v after) free.same inserts absent in
      record { was = told.was; full = inl told.full; places = λ spare. told.full; same = told.same }

  -- ---- a key is taken out

  module _ (key at : ℕ) (before mid after : List Val) (place : place_in f n before key ≡ Some at)
      (d : DropsKey map.map.cells key at before mid) (c : ClearsAll map.map key mid after) where
    cleared : maps.Makes found map.map key None (Some (values_in found f mid at)) mid after
    cleared =
        takes-out found map.map key (values_in found f mid at) mid mid after some
        (record {
          is = sym (ap (at_place (values_in found f mid)) (places-stay before mid d.others key ∙ place));
          same = refl;
        })
        c

    -- where keys are found in the end
    placed-nowhere : place_in f n after key ≡ None
    placed-nowhere = no-place found map after key cleared.is

    placed-as-before : (k : ℕ) → (k ≡ key → ⊥) → place_in f n after k ≡ place_in f n before k
    placed-as-before k apart =
        place-kept found f n some mid after k (λ q below. c.keys k q apart) (λ h below. c.reaches h) ∙ places-stay before mid d.others k

    root-after : root_in f n after ≡ root_in f n mid
    root-after = ap low_of (c.others (f + 2 * n) (λ at here e. omega (arith, e)))

    forks-after : (p : ℕ) → forks_in f n after p ≡ forks_in f n mid p
    forks-after p = ap words_of (c.others (f + 2 * n + 1 + p) (λ at here e. omega (arith, e, here)))

    module _ (t : Trie) (o : IsOrderedBy f n t before) where
      loses : Loses map.map.cells key at 64 0 (root_in f n mid) t before mid
      loses = d.loses t o.root o.held o.split (o.all at key place)

      -- the last key leaves no trie
      none-left : LeavesNone map.map.cells key at (root_in f n mid) t → IsBare f n after
      none-left none = record {
        root = root-after ∙ none.is;
        none = λ k. nowhere k (cases_eq k key);
      }
        where
          never : (k : ℕ) (p : Option ℕ) → (k ≡ key → ⊥) → place_in f n before k ≡ p → p ≡ None
          never k None apart is = refl
          never k (Some q) apart is = absurd (apart (none.alone q k (o.all q k is)).1)

          nowhere : (k : ℕ) → (k ≡ key) ⊎ (k ≡ key → ⊥) → place_in f n after k ≡ None
          nowhere k (inl same) = ap (place_in f n after) same ∙ placed-nowhere
          nowhere k (inr apart) =
              placed-as-before k apart ∙ never k (place_in f n before k) apart refl

      -- any other one leaves one
      rest-left : (r : LeavesRest map.map.cells key 64 0 (root_in f n mid) t mid) → IsOrderedBy f n r.rest after
      rest-left r = record {
        root = root-after ∙ r.is;
        held = holds-by n (keys_in f mid) (keys_in f after) (forks_in f n mid) (forks_in f n after)
            (λ p below. forks-after p) r.rest (λ p k h. (place-holds f n some after k p (stands p k h)).0) r.held;
        split = r.below;
        there = stands;
        all = λ p k at_p. has p k at_p (cases_eq k key);
      }
        where
          stands : (p k : ℕ) → Has p k r.rest → place_in f n after k ≡ Some p
          stands p k h =
              let was = r.no_more p k h in
              placed-as-before k was.1 ∙ o.there p k was.0

          has : (p k : ℕ) → place_in f n after k ≡ Some p → (k ≡ key) ⊎ (k ≡ key → ⊥) → Has p k r.rest
          has p k at_p (inl same) =
              absurd (none_not p (sym placed-nowhere ∙ ap (place_in f n after) (sym same) ∙ at_p))
          has p k at_p (inr apart) = r.kept p k (o.all p k (sym (placed-as-before k apart) ∙ at_p)) apart

      -- a fork on which the trie did not stand is as it was
      free-still : ((c : ℕ) → c < n → (Uses c t → ⊥) → (forks_in f n before c).1 ≡ 0) → (c : ℕ) → c < n → (Uses c t → ⊥) →
          (forks_in f n after c).1 ≡ 0
      free-still spare c within off =
          ap (λ (w : ℕ × ℕ). w.1) (forks-after c ∙ loses.stays c off) ∙ spare c within off

      forks-left : ((c : ℕ) → c < n → (Uses c t → ⊥) → (forks_in f n before c).1 ≡ 0) →
          LeavesNone map.map.cells key at (root_in f n mid) t
          ⊎ LeavesRest map.map.cells key 64 0 (root_in f n mid) t mid → WastesNoFork map after
      forks-left spare (inl none) = inl (none-left none, λ c within. free-still spare c within (none.bare c))
      forks-left spare (inr r) = inr (r.rest, rest-left r, λ c within off. by c within off (uses_or_not c t))
        where
          freed : (c : ℕ) → (Uses c r.rest → ⊥) → ((forks_in f n mid c).1 ≡ 0) ⊎ Uses c r.rest → (forks_in f n mid c).1 ≡ 0
          freed c off (inl free) = free
          freed c off (inr used) = absurd (off used)

          by : (c : ℕ) → c < n → (Uses c r.rest → ⊥) → Uses c t ⊎ (Uses c t → ⊥) → (forks_in f n after c).1 ≡ 0
          by c within off (inl used) = ap (λ (w : ℕ × ℕ). w.1) (forks-after c) ∙ freed c off (r.freed c used)
          by c within off (inr unused) = free-still spare c within unused

      order-left : LeavesNone map.map.cells key at (root_in f n mid) t
          ⊎ LeavesRest map.map.cells key 64 0 (root_in f n mid) t mid → IsOrdered f n after
      order-left (inl none) = inl (none-left none)
      order-left (inr r) = inr (r.rest, rest-left r)

    order-taken : IsOrdered f n before → IsOrdered f n after
    order-taken (inl bare) = absurd (none_not at (sym (bare.none key) ∙ place))
    order-taken (inr (t, o)) = order-left t o (loses t o).left

    forks-taken : WastesNoFork map before → WastesNoFork map after
    forks-taken (inl (bare, spare)) = absurd (none_not at (sym (bare.none key) ∙ place))
    forks-taken (inr (t, o, spare)) = forks-left t o spare (loses t o).left

    taken : Makes found map key None (item_of found map.map before key) before after
    taken = record {
      was = refl;
      is = cleared.is;
      others = λ k apart. cleared.others k apart ∙ items-stay before mid d.others k;
      around = λ o out. cleared.around o (outside o out) ∙ d.others o (around-order o out);
      order = order-taken;
      wastes = λ none. cleared.wastes (wastes-stay before mid d.others none);
      forks = forks-taken;
    }

  pub takes-key : (key at : ℕ) (before mid after : List Val) → DropsKey map.map.cells key at before mid →
      ClearsAll map.map key mid after → Takes found map key at before after
  takes-key key at before mid after d c place = taken key at before mid after place d c

  -- a key was found, its value read, and it was taken out
  pub removes-some : (key at p : ℕ) (value : V) (before near mid after : List Val) → p ≡ f + 2 * at + 1 →
      Seeks map.map key (Some at) before near → Reads found p value near mid → Takes found map key at mid after →
      Removes found map key (Some value) before after
  removes-some key at p value before near mid after p_is s reads takes =
      let told : Tells found map.map key (Some value) before mid =
      tells-some found map.map key at p value before near mid p_is s reads in
      subst (λ (o : Option V). Makes found map key None o before after) (sym told.is)
      (subst (λ (v : List Val). Takes found map key at v after) told.same takes s.is)

  pub removes-none : (key : ℕ) (before after : List Val) → Seeks map.map key None before after →
      Removes found map key None before after
  removes-none key before after s =
      record { is = sym (ap (at_place (values_in found f before)) s.is); same = s.same }

  -- a key that was not there is added
  pub puts-absent : (key : ℕ) (value : V) (placed : Placed V) (before mid after : List Val) →
      Seeks map.map key None before mid → Adding found map key value placed mid after →
      Puts found map key value placed before after
  puts-absent key value placed before mid after s adding =
      let told : Adding found map key value placed before after =
      subst (λ (xs : List Val). Adding found map key value placed xs after) s.same adding in
      told s.is

  -- the first key was told, or the last one, and was taken out
  pub pops-some : (greatest : Bool) (entry : ℕ × V) (removed : Option V) (before mid after : List Val) →
      TellsEnd found map greatest (Some entry) before mid → Removes found map entry.0 removed mid after →
      PopsEnd found map greatest (Some entry) before after
  pops-some greatest entry None before mid after end none =
      let same : after ≡ before = none.same ∙ end.same in
      record {
        end = end.is;
        is = ap (λ (v : List Val). item_of found map.map v entry.0) none.same ∙ sym none.is;
        others = λ k apart. ap (λ (v : List Val). item_of found map.map v k) same;
        around = λ o out. ap (λ (v : List Val). value_at v o) same;
        order = subst (λ (v : List Val). IsInOrder map before → IsInOrder map v) (sym same) (λ order. order);
        wastes = subst (λ (v : List Val). WastesNone map.map before → WastesNone map.map v) (sym same) (λ none. none);
        forks = subst (λ (v : List Val). WastesNoFork map before → WastesNoFork map v) (sym same) (λ none. none);
      }
  pops-some greatest entry (Some had) before mid after end done =
      let same = end.same in
      record {
        end = end.is;
        is = done.is;
        others = λ k apart. done.others k apart ∙ ap (λ (v : List Val). item_of found map.map v k) same;
        around = λ o out. done.around o out ∙ ap (λ (v : List Val). value_at v o) same;
        order = subst (λ (v : List Val). IsInOrder map v → IsInOrder map after) same done.order;
        wastes = subst (λ (v : List Val). WastesNone map.map v → WastesNone map.map after) same done.wastes;
        forks = subst (λ (v : List Val). WastesNoFork map v → WastesNoFork map after) same done.forks;
      }

  -- what a place holds was looked up
  pub looks-nowhere : (place : Option ℕ) (values : List Val) → place ≡ None → Looks found map place None values values
  looks-nowhere place values none = record { is = sym (ap (entry_at found map values) none); same = refl }

  key_seen : (at o : ℕ) (held : Option ℕ) (before mid : List Val) → o ≡ f + 2 * at →
      Reads key_of o held before mid → held ≡ key_at map.map before at
  key_seen at o held before mid o_is reads = reads.is ∙ ap (λ (x : ℕ). key_of (value_at before x)) o_is

  pub looks-keyless : (place : Option ℕ) (at o : ℕ) (held : Option ℕ) (before after : List Val) → place ≡ Some at →
      o ≡ f + 2 * at → held ≡ None → Reads key_of o held before after → Looks found map place None before after
  looks-keyless place at o held before after at_is o_is none reads = record {
    is = sym (ap (entry_at found map before) at_is
        ∙ ap (λ (k : Option ℕ). entry_of found map k (values_in found f before at))
        (sym (key_seen at o held before after o_is reads) ∙ none));
    same = reads.same;
  }

  pub looks-there : (place : Option ℕ) (at o p key : ℕ) (held : Option ℕ) (value : V) (before mid after : List Val) →
      place ≡ Some at → o ≡ f + 2 * at → p ≡ f + 2 * at + 1 → held ≡ Some key → Reads key_of o held before mid →
      Reads found p value mid after → Looks found map place (Some (key, value)) before after
  looks-there place at o p key held value before mid after at_is o_is p_is some_key reads sees =
      let here : value ≡ values_in found f before at =
      sees.is ∙ ap (λ (xs : List Val). found (value_at xs p)) reads.same
      ∙ ap (λ (x : ℕ). found (value_at before x)) p_is in
      record {
        is = ap (λ (v : V). Some (key, v)) here
            ∙ ap (λ (k : Option ℕ). entry_of found map k (values_in found f before at))
            (sym some_key ∙ key_seen at o held before mid o_is reads)
            ∙ sym (ap (entry_at found map before) at_is);
        same = sees.same ∙ reads.same;
      }
