-- Where an object stands among what an attempt has open.
use Rattle.std.proofs.Common.{◌&&◌, ◌+◌, ◌-◌, ◌<◌, ◌==◌, ◌∙◌, ◌≡◌, ◌≢◌, List, None, Some, ap, arith, false, filter, find, length, length-set, refl, subst, sym, true, ℕ}
use Rattle.std.specs.Prelude.{IsSome, is_some, slice_index_or, slice_set}
use Rattle.std.proofs.lemmas.List.{get_or_default}
use Rattle.std.specs.Vec.{with_item}
use Rattle.dstm_engine.proofs.Base.{ReadSlot, Val, WriteSlot}
use Rattle.dstm_mem.proofs.Finding.{find_filter}
use Rattle.dstm_mem.proofs.Slots.{beside, finds_none, finds_one, looked, one_less, only, part_here, part_other, place_is, placed_alike, stands_there}
use Rattle.dstm_mem.specs.Slots.{IsSlotOf, slot_in}
use Rattle.dstm_engine.proofs.Slots.{drop_kept, length-without, set_slot_is, without_none}
use Rattle.dstm_engine.specs.Opened.{AreReadPlaces, AreWritePlaces, HasPlaces, OpenedAs, read_at, read_slot, with_set_slot, without_read, write_slot}
use Rattle.dstm_steps.specs.Sorts.{is_kept, no_read, no_write, reads_sort}
use Rattle.dstm_mem.specs.Slots.{no_place, place_at}
use Rattle.dstm_engine.specs.declared.opened.Opened.TheInside.{Inside}
use Rattle.dstm_mem.specs.declared.places.Place.{Place}

-- the slots that a call finds by what it has found at the object's place
module _ (places : List Place) (o : ℕ) (below : o < length places) (place : Place)
    (found : place ≡ slice_index_or places o place) where
  pub found_read : (reads : List ReadSlot) → AreReadPlaces reads places →
      slot_in reads place.read ≡ read_slot (filter is_kept reads) o
  found_read reads p =
      looked p o below place.read (ap (λ (q : Place). q.read) (place_is places o below place found))
      ∙ sym (find_filter (λ (s : ReadSlot). s.object == o) is_kept reads)

  pub found_write : (writes : List WriteSlot) → AreWritePlaces writes places → slot_in writes place.write ≡ write_slot writes o
  found_write writes p = looked p o below place.write (ap (λ (q : Place). q.write) (place_is places o below place found))

-- The object has this place, and contracts see what is open as this.
pub record AtPlace (x : Inside) (k : OpenedAs) (o : ℕ) (place : Place) : Type 0 where
  pub has : HasPlaces x
  pub view : ◌≡◌ {A = OpenedAs} (record {
    objects = length x.places.items;
    reads = filter is_kept x.reads.items;
    writes = x.writes.items;
  }) k
  pub below : o < length x.places.items
  pub is : place_at x.places.items o ≡ place

pub at_place : (x : Inside) → HasPlaces x → (k : OpenedAs) → ◌≡◌ {A = OpenedAs} (record {
  objects = length x.places.items;
  reads = filter is_kept x.reads.items;
  writes = x.writes.items;
}) k → (o : ℕ) → o < k.objects → (place : Place) → place ≡ slice_index_or x.places.items o place → AtPlace x k o place
at_place x has k view o exists place found =
    let below : o < length x.places.items = subst (λ (y : OpenedAs). o < y.objects) (sym view) exists in
    record {
      has = has;
      view = view;
      below = below;
      is = place_is x.places.items o below place found;
    }

module _ {x : Inside} {k : OpenedAs} {o : ℕ} {place : Place} (a : AtPlace x k o place) where
  read_is : (place_at x.places.items o).read ≡ place.read
  read_is = ap (λ (q : Place). q.read) a.is

  write_is : (place_at x.places.items o).write ≡ place.write
  write_is = ap (λ (q : Place). q.write) a.is

  -- what it is read or open for writing with
  reads_seen : find (λ (s : ReadSlot). s.kept && (s.object == o)) x.reads.items ≡ read_slot k.reads o
  reads_seen =
      sym (find_filter (λ (s : ReadSlot). s.object == o) is_kept x.reads.items)
      ∙ ap (λ (y : OpenedAs). read_slot y.reads o) a.view

  pub unread : place.read ≡ 0 → None ≡ read_slot k.reads o
  unread none = sym (finds_none a.has.reads o a.below place.read read_is none) ∙ reads_seen

  pub unopened : place.write ≡ 0 → None ≡ write_slot k.writes o
  unopened none =
      sym (finds_none a.has.writes o a.below place.write write_is none) ∙ ap (λ (y : OpenedAs). write_slot y.writes o) a.view

  -- a value is set where it is open for writing
  pub stands : IsSome (write_slot k.writes o) → place.write ≢ 0
  stands opened none =
      let z : is_some (write_slot k.writes o) ≡ true = opened in let no = ap is_some (unopened none) in absurd (cc)

  pub is_set : IsSome (write_slot k.writes o) → (v : Val) (slot : WriteSlot) →
      slot ≡ slice_index_or x.writes.items (place.write - 1) slot →
      slice_set x.writes.items (place.write - 1) (record slot { new = Some v }) ≡ with_set_slot o v x.writes.items
  is_set opened v slot found =
      let r = stands_there a.has.writes o a.below place.write write_is (stands opened) in
      ap (λ (s : WriteSlot). slice_set x.writes.items (place.write - 1) (record s { new = Some v }))
      (found ∙ get_or_default x.writes.items (place.write - 1) slot no_write r.within)
      ∙ set_slot_is x.writes.items o (place.write - 1) v r (λ i q. only a.has.writes o (place.write - 1) i r q)

  -- ---- its read is let go

  pub none_dropped : place.read ≡ 0 → ◌≡◌ {A = OpenedAs} k (record k { reads = without_read o k.reads })
  none_dropped none = ap (λ rs. record k { reads = rs }) (sym (without_none k.reads o (sym (unread none))))

  module _ (some : place.read ≢ 0) (slot : ReadSlot) (found : slot ≡ slice_index_or x.reads.items (place.read - 1) slot) where
    there : IsSlotOf reads_sort x.reads.items o (place.read - 1)
    there = stands_there a.has.reads o a.below place.read read_is some

    slot_is : slot ≡ read_at x.reads.items (place.read - 1)
    slot_is = found ∙ get_or_default x.reads.items (place.read - 1) slot no_read there.within

    left : filter is_kept (slice_set x.reads.items (place.read - 1) (record slot { kept = false }))
        ≡ without_read o (filter is_kept x.reads.items)
    left =
        ap (λ (s : ReadSlot). filter is_kept (slice_set x.reads.items (place.read - 1) (record s { kept = false }))) slot_is
        ∙ drop_kept x.reads.items o (place.read - 1) there (λ i q. only a.has.reads o (place.read - 1) i there q)

    pub drop_places : (q : Place) → q ≡ slice_index_or x.places.items o q → HasPlaces (record {
      reads = with_item x.reads (place.read - 1) (record slot { kept = false });
      writes = x.writes;
      places = with_item x.places o (record q { read = 0 });
      gone = x.gone + 1;
    })
    drop_places q at =
        let places = x.places.items in
        let old = a.has in
        let new = record q { read = 0 } in
        let wide = length-set places o new in
        let long = length-set x.reads.items (place.read - 1) (record slot { kept = false }) in
        let fewer = length-without (filter is_kept x.reads.items) o
        (ap is_some (find_filter (λ (s : ReadSlot). s.object == o) is_kept x.reads.items
        ∙ finds_one old.reads o a.below place.read read_is some slot found)) in
        let kept = ap (λ xs. length xs) left in
        let same = at ∙ get_or_default places o q no_place a.below in
        record {
          reads = placed_alike (one_less old.reads o (place.read - 1) there (record slot { kept = false })
              (ap (λ (s : ReadSlot). s.object) slot_is ∙ there.object) refl
              (λ y. (place_at (slice_set places o new) y).read)
              (part_here places no_place o new a.below (λ (y : Place). y.read))
              (part_other places no_place o new a.below (λ (y : Place). y.read))) _ _ wide (λ y. refl);
          writes = beside (λ (y : Place). y.write) places old.writes o a.below new (ap (λ (y : Place). y.write) same);
          room = ((let r = old.room.0 in omega arith), (let r = old.room.1 in omega arith));
          few = ((let f = old.few.0 in omega arith), (let f = old.few.1 in omega arith), (let f = old.few.2 in omega arith));
          counted = let c = old.counted in omega arith;
        }

    pub drop_view : (q : Place) → ◌≡◌ {A = OpenedAs} (record {
      objects = length (slice_set x.places.items o (record q { read = 0 }));
      reads = filter is_kept (slice_set x.reads.items (place.read - 1) (record slot { kept = false }));
      writes = x.writes.items;
    }) (record k { reads = without_read o k.reads })
    drop_view q =
        ap (λ n. record {
          objects = n;
          reads = filter is_kept (slice_set x.reads.items (place.read - 1) (record slot { kept = false }));
          writes = x.writes.items;
        }) (length-set x.places.items o (record q { read = 0 }))
        ∙ ap (λ rs. record { objects = length x.places.items; reads = rs; writes = x.writes.items }) left
        ∙ ap (λ (y : OpenedAs). record y { reads = without_read o y.reads }) a.view
