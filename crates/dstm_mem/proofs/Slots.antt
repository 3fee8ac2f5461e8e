-- Lists of slots, each found by its object's place.
use Rattle.std.proofs.Common.{◌&&◌, ◌+◌, ◌++◌, ◌-◌, ◌<◌, ◌≤◌, ◌==◌, ◌∙◌, ◌∷◌, ◌≡◌, ◌≢◌, ◌⊎◌, List, None, Some, [], ap, arith, cond, false, inl, inr, length, length-append, refl, subst, sym, true, ℕ}
use Rattle.std.specs.Prelude.{AllPairs, filter, find, slice_index_or, slice_set}
use Rattle.std.specs.List.{position_or_len}
use Rattle.std.proofs.Math.Seq.{get_or-append_seam}
use Rattle.std.proofs.lemmas.Bool.{and_from, and_parts, cases_eq, cases_lt, eq-eqb, eqb-true, ne_eqb}
use Rattle.std.proofs.lemmas.List.{get_or_append_left, get_or_default, get_or-set_other, get_or-set_same, length-set}
use Rattle.std.proofs.lemmas.Option.{slice_get-get_or}
use Rattle.std.proofs.lemmas.List.Elements.{All-filter, filter_passes}
use Rattle.std.proofs.lemmas.List.Kept.{AllPairs-filter}
use Rattle.std.proofs.lemmas.List.Sums.{fails_before_first, passes_at_first}
use Rattle.dstm_mem.proofs.Few.{few_named}
use Rattle.dstm_mem.proofs.Finding.{find_filter, find_none, find_one}
use Rattle.dstm_mem.specs.Slots.{ArePlaced, ArePlacedBy, IsSlotOf, Sort, no_place, place_at, slot_at, slot_in}
use Rattle.dstm_mem.specs.declared.places.Place.{Place}

module _ {T : Type 0} {sort : Sort T} {slots : List T} {objects : ℕ} {place : ℕ → ℕ}
    (p : ArePlaced sort slots objects place) where
  -- an object has one slot that counts
  pub only : (o i j : ℕ) → IsSlotOf sort slots o i → IsSlotOf sort slots o j → j ≡ i
  only o i j a b = let x = p.placed o i a in let y = p.placed o j b in omega arith

  -- where all count, no object has two
  pub apart : ((i : ℕ) → i < length slots → sort.counts (slot_at sort slots i) ≡ true) → (i j : ℕ) → i < j →
      j < length slots → sort.object (slot_at sort slots i) ≢ sort.object (slot_at sort slots j)
  apart all i j lower lt same =
      let e = only _ i j (record { within = omega arith; counts = all i (omega arith); object = refl })
      (record { within = lt; counts = all j lt; object = sym same }) in
      omega arith

  -- and there are no more slots than objects
  pub few_slots : ((i : ℕ) → i < length slots → sort.counts (slot_at sort slots i) ≡ true) → length slots ≤ objects
  few_slots all = few_named sort.object sort.none objects slots p.below (apart all)

  -- the places say the same
  pub placed_alike : (n : ℕ) (new : ℕ → ℕ) → n ≡ objects → ((o : ℕ) → new o ≡ place o) → ArePlaced sort slots n new
  placed_alike n new size same = record {
    below = λ i lt. let b = p.below i lt in omega arith;
    placed = λ o i r. same o ∙ p.placed o i r;
    places = λ o lt some.
        subst (λ k. IsSlotOf sort slots o (k - 1)) (sym (same o)) (p.places o (omega arith) (λ z. some (same o ∙ z)));
  }

  -- what a call finds at the object's place
  module _ (o : ℕ) (below : o < objects) (n : ℕ) (is : place o ≡ n) where
    slot_is : (i : ℕ) → i < length slots → sort.counts (slot_at sort slots i) && (sort.object (slot_at sort slots i) == o) ≡ true →
        IsSlotOf sort slots o i
    slot_is i lt q =
        let two = and_parts (sort.counts (slot_at sort slots i)) (sort.object (slot_at sort slots i) == o) q in
        record { within = lt; counts = two.0; object = eqb-true (sort.object (slot_at sort slots i)) o two.1 }

    pub finds_none : n ≡ 0 → find (λ s. sort.counts s && (sort.object s == o)) slots ≡ None
    finds_none none =
        find_none _ sort.none slots (λ i lt q. let e = p.placed o i (slot_is i lt q) in omega arith)

    pub stands_there : n ≢ 0 → IsSlotOf sort slots o (n - 1)
    stands_there some =
        subst (λ k. IsSlotOf sort slots o (k - 1)) is (p.places o below (λ z. some (sym is ∙ z)))

    pub finds_one : n ≢ 0 → (s : T) → s ≡ slice_index_or slots (n - 1) s →
        find (λ s. sort.counts s && (sort.object s == o)) slots ≡ Some s
    finds_one some s found =
        let r = stands_there some in
        find_one _ sort.none slots (n - 1) r.within
        (and_from (sort.counts (slot_at sort slots (n - 1))) (sort.object (slot_at sort slots (n - 1)) == o) r.counts
        (eq-eqb (sort.object (slot_at sort slots (n - 1))) o r.object))
        (λ i lt q. only o (n - 1) i r (slot_is i lt q))
        ∙ ap Some (get_or_default slots (n - 1) sort.none s r.within ∙ sym found)

    -- so the slot there is the object's, where it has one
    pub looked : slot_in slots n ≡ find (λ s. sort.counts s && (sort.object s == o)) slots
    looked = by (cases_eq n 0)
      where
        by : (n ≡ 0) ⊎ (n ≡ 0 → ⊥) → slot_in slots n ≡ find (λ s. sort.counts s && (sort.object s == o)) slots
        by (inl none) = ap (slot_in slots) none ∙ sym (finds_none none)
        by (inr some) =
            let lt = (stands_there some).within in
            let there : slot_in slots n ≡ Some (slot_at sort slots (n - 1)) =
            rw (ne_eqb n 0 some) (slice_get-get_or slots (n - 1) sort.none lt) in
            there
            ∙ sym (finds_one some (slot_at sort slots (n - 1)) (get_or_default slots (n - 1) sort.none (slot_at sort slots (n - 1)) lt))

    -- an object that has none has no place
    pub unplaced : find (λ s. sort.counts s && (sort.object s == o)) slots ≡ None → n ≡ 0
    unplaced none = by (cases_eq n 0)
      where
        by : (n ≡ 0) ⊎ (n ≡ 0 → ⊥) → n ≡ 0
        by (inl q) = q
        by (inr some) =
            let one = finds_one some (slot_at sort slots (n - 1))
            (get_or_default slots (n - 1) sort.none (slot_at sort slots (n - 1)) (stands_there some).within) in
            absurd (cc)

  -- ---- a slot more

  module _ (s : T) (below : sort.object s < objects) (counts : sort.counts s ≡ true) (none : place (sort.object s) ≡ 0)
      (new : ℕ → ℕ) (here : new (sort.object s) ≡ length slots + 1)
      (others : (o : ℕ) → o ≢ sort.object s → new o ≡ place o) where
    abbrev more : List T
    more = slots ++ s ∷ []

    longer : length more ≡ length slots + 1
    longer = let a = length-append slots (s ∷ []) in omega arith

    last : slot_at sort more (length slots) ≡ s
    last = get_or-append_seam slots s [] sort.none

    before : (i : ℕ) → i < length slots → slot_at sort more i ≡ slot_at sort slots i
    before i lt = get_or_append_left slots (s ∷ []) sort.none i lt

    -- each is one of those before, or the last one
    earlier_or_last : (i : ℕ) → i < length more →
        ((i < length slots) × (slot_at sort more i ≡ slot_at sort slots i)) ⊎ ((i ≡ length slots) × (slot_at sort more i ≡ s))
    earlier_or_last i lt = by (cases_eq i (length slots))
      where
        by : (i ≡ length slots) ⊎ (i ≡ length slots → ⊥) →
            ((i < length slots) × (slot_at sort more i ≡ slot_at sort slots i)) ⊎ ((i ≡ length slots) × (slot_at sort more i ≡ s))
        by (inl same) = inr (same, ap (slot_at sort more) same ∙ last)
        by (inr other) =
            let within : i < length slots = let l = longer in omega arith in inl (within, before i within)

    below_more : (i : ℕ) → i < length more → sort.object (slot_at sort more i) < objects
    below_more i lt = by (earlier_or_last i lt)
      where
        by : ((i < length slots) × (slot_at sort more i ≡ slot_at sort slots i)) ⊎ ((i ≡ length slots) × (slot_at sort more i ≡ s)) →
            sort.object (slot_at sort more i) < objects
        by (inl q) = subst (λ x. sort.object x < objects) (sym q.1) (p.below i q.0)
        by (inr q) = subst (λ x. sort.object x < objects) (sym q.1) below

    placed_more : (o i : ℕ) → IsSlotOf sort more o i → new o ≡ i + 1
    placed_more o i r = by (earlier_or_last i r.within)
      where
        by : ((i < length slots) × (slot_at sort more i ≡ slot_at sort slots i)) ⊎ ((i ≡ length slots) × (slot_at sort more i ≡ s)) →
            new o ≡ i + 1
        by (inl q) =
            let was = p.placed o i (record {
              within = q.0;
              counts = ap sort.counts (sym q.1) ∙ r.counts;
              object = ap sort.object (sym q.1) ∙ r.object;
            }) in
            others o (λ same. let zero_is : place o ≡ 0 = ap place same ∙ none in absurd (omega arith)) ∙ was
        by (inr q) =
            ap new (sym r.object ∙ ap sort.object q.1) ∙ here ∙ ap (λ k. k + 1) (sym q.0)

    places_more : (o : ℕ) → o < objects → new o ≢ 0 → IsSlotOf sort more o (new o - 1)
    places_more o lt some = by (cases_eq o (sort.object s))
      where
        by : (o ≡ sort.object s) ⊎ (o ≡ sort.object s → ⊥) → IsSlotOf sort more o (new o - 1)
        by (inl same) =
            let at : new o ≡ length slots + 1 = ap new same ∙ here in
            subst (IsSlotOf sort more o) (let e : length slots ≡ new o - 1 = omega arith in e) (record {
              within = let l = longer in omega arith;
              counts = ap sort.counts last ∙ counts;
              object = ap sort.object last ∙ sym same;
            })
        by (inr other) =
            let at = others o other in
            let r = p.places o lt (λ z. some (at ∙ z)) in
            subst (λ k. IsSlotOf sort more o (k - 1)) (sym at) (record {
              within = let w = r.within in let l = longer in omega arith;
              counts = ap sort.counts (before _ r.within) ∙ r.counts;
              object = ap sort.object (before _ r.within) ∙ r.object;
            })

    pub one_more : ArePlaced sort more objects new
    one_more = record { below = below_more; placed = placed_more; places = places_more }

  -- ---- a slot that counts no more

  module _ (o i : ℕ) (r : IsSlotOf sort slots o i) (gone : T) (object : sort.object gone ≡ o) (no : sort.counts gone ≡ false)
      (new : ℕ → ℕ) (here : new o ≡ 0) (others : (x : ℕ) → x ≢ o → new x ≡ place x) where
    abbrev less : List T
    less = slice_set slots i gone

    size_less : length less ≡ length slots
    size_less = length-set slots i gone

    -- each is as before, but for the one
    gone_or_as_before : (j : ℕ) → (slot_at sort less j ≡ gone) ⊎ ((j ≢ i) × (slot_at sort less j ≡ slot_at sort slots j))
    gone_or_as_before j = by (cases_eq j i)
      where
        by : (j ≡ i) ⊎ (j ≡ i → ⊥) → (slot_at sort less j ≡ gone) ⊎ ((j ≢ i) × (slot_at sort less j ≡ slot_at sort slots j))
        by (inl same) = inl (ap (slot_at sort less) same ∙ get_or-set_same slots i gone sort.none r.within)
        by (inr other) = inr (other, get_or-set_other slots i j gone sort.none other)

    below_less : (j : ℕ) → j < length less → sort.object (slot_at sort less j) < objects
    below_less j lt = by (gone_or_as_before j)
      where
        by : (slot_at sort less j ≡ gone) ⊎ ((j ≢ i) × (slot_at sort less j ≡ slot_at sort slots j)) →
            sort.object (slot_at sort less j) < objects
        by (inl q) = subst (λ k. k < objects) (r.object ∙ sym object ∙ ap sort.object (sym q)) (p.below i r.within)
        by (inr q) =
            subst (λ x. sort.object x < objects) (sym q.1) (p.below j (let z = size_less in omega arith))

    placed_less : (x j : ℕ) → IsSlotOf sort less x j → new x ≡ j + 1
    placed_less x j s = by (gone_or_as_before j)
      where
        by : (slot_at sort less j ≡ gone) ⊎ ((j ≢ i) × (slot_at sort less j ≡ slot_at sort slots j)) → new x ≡ j + 1
        by (inl q) = let yes = s.counts in let not = ap sort.counts q ∙ no in absurd (cc)
        by (inr q) =
            let was : IsSlotOf sort slots x j = record {
              within = let w = s.within in let z = size_less in omega arith;
              counts = ap sort.counts (sym q.1) ∙ s.counts;
              object = ap sort.object (sym q.1) ∙ s.object;
            } in
            others x (λ same. q.0 (only o i j r (subst (λ k. IsSlotOf sort slots k j) same was))) ∙ p.placed x j was

    places_less : (x : ℕ) → x < objects → new x ≢ 0 → IsSlotOf sort less x (new x - 1)
    places_less x lt some =
        let other : x ≢ o = λ same. some (ap new same ∙ here) in
        let at = others x other in
        let was = p.places x lt (λ z. some (at ∙ z)) in
        let apart : place x - 1 ≢ i =
        λ z. other (sym was.object ∙ ap (λ k. sort.object (slot_at sort slots k)) z ∙ r.object) in
        let stays = get_or-set_other slots i (place x - 1) gone sort.none apart in
        subst (λ k. IsSlotOf sort less x (k - 1)) (sym at) (record {
          within = let w = was.within in let z = size_less in omega arith;
          counts = ap sort.counts stays ∙ was.counts;
          object = ap sort.object stays ∙ was.object;
        })

    pub one_less : ArePlaced sort less objects new
    one_less = record { below = below_less; placed = placed_less; places = places_less }

  -- ---- those that count move together

  abbrev counting : List T
  counting = filter sort.counts slots

  counts_all : (i : ℕ) → i < length counting → sort.counts (slot_at sort counting i) ≡ true
  counts_all i lt = filter_passes sort.counts slots i sort.none lt

  pub below_counting : (i : ℕ) → i < length counting → sort.object (slot_at sort counting i) < objects
  below_counting i lt =
      All-filter sort.counts (λ s. sort.object s < objects) slots
      (λ k d within. subst (λ s. sort.object s < objects) (get_or_default slots k sort.none d within) (p.below k within))
      i sort.none lt

  abbrev DifferIfCounting : T → T → Type 0
  DifferIfCounting a b = sort.counts a ≡ true → sort.counts b ≡ true → sort.object a ≢ sort.object b

  pairs_apart : AllPairs DifferIfCounting slots
  pairs_apart i j d lower lt a b same =
      let x = get_or_default slots i sort.none d (omega arith) in
      let y = get_or_default slots j sort.none d lt in
      let e = only _ i j (record { within = omega arith; counts = ap sort.counts x ∙ a; object = refl })
      (record {
        within = lt;
        counts = ap sort.counts y ∙ b;
        object = ap sort.object y ∙ sym same ∙ ap sort.object (sym x);
      }) in
      omega arith

  pub apart_counting : (i j : ℕ) → i < length counting → j < length counting →
      sort.object (slot_at sort counting i) ≡ sort.object (slot_at sort counting j) → i ≡ j
  apart_counting i j a b same = by (cases_lt i j) (cases_lt j i)
    where
      never : (i j : ℕ) → i < j → j < length counting →
          sort.object (slot_at sort counting i) ≢ sort.object (slot_at sort counting j)
      never i j lower lt =
          AllPairs-filter DifferIfCounting sort.counts slots pairs_apart i j sort.none lower lt (counts_all i (omega arith)) (counts_all j lt)

      by : (i < j) ⊎ (j ≤ i) → (j < i) ⊎ (i ≤ j) → i ≡ j
      by (inl lower) other = absurd (never i j lower b same)
      by (inr least) (inl lower) = absurd (never j i lower a (sym same))
      by (inr least) (inr most) = omega arith

  -- whether one of them is the object's
  is_counting : (o : ℕ) → ((i : ℕ) × (i < length counting) × (sort.object (slot_at sort counting i) ≡ o))
      ⊎ ((i : ℕ) → i < length counting → sort.object (slot_at sort counting i) ≢ o)
  is_counting o = by (cases_lt (position_or_len (λ s. sort.object s == o) counting) (length counting))
    where
      by : (position_or_len (λ s. sort.object s == o) counting < length counting)
          ⊎ (length counting ≤ position_or_len (λ s. sort.object s == o) counting) →
          ((i : ℕ) × (i < length counting) × (sort.object (slot_at sort counting i) ≡ o))
          ⊎ ((i : ℕ) → i < length counting → sort.object (slot_at sort counting i) ≢ o)
      by (inl lt) = inl (
        position_or_len (λ s. sort.object s == o) counting,
        lt,
        eqb-true _ o (passes_at_first (λ s. sort.object s == o) counting sort.none lt),
      )
      by (inr past) = inr (λ i lt same.
          let no = fails_before_first (λ s. sort.object s == o) counting i sort.none (omega arith) in
          let yes = eq-eqb (sort.object (slot_at sort counting i)) o same in absurd (cc))

  -- each of them stands in its place then, and the others find nothing
  pub together : (new : ℕ → ℕ) → ((i : ℕ) → i < length counting → new (sort.object (slot_at sort counting i)) ≡ i + 1) →
      ((o : ℕ) → ((i : ℕ) → i < length counting → sort.object (slot_at sort counting i) ≢ o) → new o ≡ place o) →
      ArePlaced sort counting objects new
  together new done others = record {
    below = below_counting;
    placed = λ o i r. ap new (sym r.object) ∙ done i r.within;
    places = λ o lt some. by o lt some (is_counting o);
  }
    where
      by : (o : ℕ) → o < objects → new o ≢ 0 →
          ((i : ℕ) × (i < length counting) × (sort.object (slot_at sort counting i) ≡ o))
          ⊎ ((i : ℕ) → i < length counting → sort.object (slot_at sort counting i) ≢ o) →
          IsSlotOf sort counting o (new o - 1)
      by o lt some (inl x) =
          let at : new o ≡ x.0 + 1 = ap new (sym x.2) ∙ done x.0 x.1 in
          subst (IsSlotOf sort counting o) (let e : x.0 ≡ new o - 1 = omega arith in e)
          (record { within = x.1; counts = counts_all x.0 x.1; object = x.2 })
      by o lt some (inr none) =
          let was = others o none in
          let r = p.places o lt (λ z. some (was ∙ z)) in
          let one = finds_one o lt (place o) refl (λ z. some (was ∙ z)) (slot_at sort slots (place o - 1))
          (get_or_default slots (place o - 1) sort.none (slot_at sort slots (place o - 1)) r.within) in
          let no : find (λ s. sort.object s == o) counting ≡ None =
          find_none _ sort.none counting (λ i within q. none i within (eqb-true _ o q)) in
          let same = find_filter (λ s. sort.object s == o) sort.counts slots in
          absurd (cc)
      -- ---- nothing stands there any more

-- where all count there is room for a slot of an object that has none
pub room_for : {T : Type 0} {sort : Sort T} {slots : List T} {objects : ℕ} {place : ℕ → ℕ} →
    ArePlaced sort slots objects place → ((s : T) → sort.counts s ≡ true) → (s : T) → sort.object s < objects →
    place (sort.object s) ≡ 0 → length slots < objects
room_for {sort = sort} {slots = slots} {place = place} p all s below none =
    let more = one_more p s below (all s) none (λ o. cond (o == sort.object s) (length slots + 1) (place o))
    (rw (eq-eqb (sort.object s) (sort.object s) refl) refl) (λ o other. rw (ne_eqb o (sort.object s) other) refl) in
    let few = few_slots more (λ i lt. all _) in let longer = length-append slots (s ∷ []) in omega arith

-- ---- a place that is changed

module _ {P : Type 0} (places : List P) (none : P) (o : ℕ) (q : P) (below : o < length places) (part : P → ℕ) where
  pub part_here : part (slice_index_or (slice_set places o q) o none) ≡ part q
  part_here = ap part (get_or-set_same places o q none below)

  pub part_other : (x : ℕ) → x ≢ o → part (slice_index_or (slice_set places o q) x none) ≡ part (slice_index_or places x none)
  part_other x other = ap part (get_or-set_other places o x q none other)

  -- what the change keeps there it keeps everywhere
  pub part_kept : part q ≡ part (slice_index_or places o none) → (x : ℕ) →
      part (slice_index_or (slice_set places o q) x none) ≡ part (slice_index_or places x none)
  part_kept is x = by (cases_eq x o)
    where
      by : (x ≡ o) ⊎ (x ≡ o → ⊥) → part (slice_index_or (slice_set places o q) x none) ≡ part (slice_index_or places x none)
      by (inl same) = ap (λ k. part (slice_index_or (slice_set places o q) k none)) same ∙ part_here ∙ is
          ∙ ap (λ k. part (slice_index_or places k none)) (sym same)
      by (inr other) = part_other x other

-- ---- places of which one is changed

-- the place that a call has found
pub place_is : (places : List Place) (o : ℕ) → o < length places → (place : Place) →
    place ≡ slice_index_or places o place → place_at places o ≡ place
place_is places o below place found = get_or_default places o no_place place below ∙ sym found

module _ (part : Place → ℕ) (places : List Place) {T : Type 0} {sort : Sort T} {slots : List T}
    (p : ArePlacedBy part sort slots places) where
  -- a slot more, with its place
  pub pushed : (s : T) → sort.object s < length places → sort.counts s ≡ true → part (place_at places (sort.object s)) ≡ 0 →
      (q : Place) → part q ≡ length slots + 1 → ArePlacedBy part sort (slots ++ s ∷ []) (slice_set places (sort.object s) q)
  pushed s below counts none q is =
      placed_alike (one_more p s below counts none (λ o. part (place_at (slice_set places (sort.object s) q) o))
      (part_here places no_place (sort.object s) q below part ∙ is) (part_other places no_place (sort.object s) q below part))
      _ _ (length-set places (sort.object s) q) (λ o. refl)

  -- a change on the other side
  pub beside : (o : ℕ) → o < length places → (q : Place) → part q ≡ part (place_at places o) →
      ArePlacedBy part sort slots (slice_set places o q)
  beside o below q is =
      placed_alike p _ _ (length-set places o q) (part_kept places no_place o q below part is)
