-- What is open of an object, by where it stands.
use Rattle.std.proofs.Common.{◌-◌, ◌<◌, ◌∙◌, ◌==◌, ◌≡◌, ◌≢◌, Bool, List, None, Option, Some, ap, arith, length, refl, sym, true, ℕ, IsSome, is_some, option_map, slice_index_or, slice_set}
use Rattle.std.proofs.lemmas.List.{get_or_default}
use Rattle.dstm_mem.proofs.Finding.{lookup_find}
use Rattle.dstm_mem.proofs.Slots.{looked, place_is, only, stands_there, unplaced}
use Rattle.dstm_mem.specs.Memory.{value_in}
use Rattle.dstm_model.specs.declared.value.Val.{Val}
use Rattle.dstm_tl2.specs.State.{no_write}
use Rattle.dstm_tl2_steps.specs.Opened.{AreReadPlaces, AreWritePlaces, read_slot, set_writes, with_value}
use Rattle.dstm_mem.specs.Slots.{IsSlotOf, pairs_sort, place_at, slot_in}
use Rattle.dstm_mem.specs.declared.places.Place.{Place}
use Rattle.dstm_tl2_steps.specs.declared.opened.ReadSlot.{ReadSlot}
use Rattle.dstm_tl2_steps.proofs.Slots.{value_in-set_here, value_in-set_other, with_value_is}

-- what a call finds at the place that it has found
module _ (reads : List ReadSlot) (places : List Place) (p : AreReadPlaces reads places) (o : ℕ) (below : o < length places)
    (place : Place) (found : place ≡ slice_index_or places o place) where
  read_is : (place_at places o).read ≡ place.read
  read_is = ap (λ (x : Place). x.read) (place_is places o below place found)

  pub found_read : slot_in reads place.read ≡ read_slot reads o
  found_read = looked p o below place.read read_is

module _ (writes : List (ℕ × Val)) (places : List Place) (p : AreWritePlaces writes places) (o : ℕ) (below : o < length places)
    (place : Place) (found : place ≡ slice_index_or places o place) where
  pub write_is : (place_at places o).write ≡ place.write
  write_is = ap (λ (x : Place). x.write) (place_is places o below place found)

  pub found_write : option_map (λ (w : ℕ × Val). w.1) (slot_in writes place.write) ≡ value_in writes o
  found_write =
      ap (option_map (λ (w : ℕ × Val). w.1)) (looked p o below place.write write_is) ∙ sym (lookup_find (λ q. q == o) writes)

-- an object that is not open for writing has no place among the writes
pub unopened_there : (writes : List (ℕ × Val)) (places : List Place) (p : AreWritePlaces writes places) (o : ℕ) →
    o < length places → value_in writes o ≡ None → (place_at places o).write ≡ 0
unopened_there writes places p o below none =
    unplaced p o below _ refl (not_found _ (sym (lookup_find (λ q. q == o) writes) ∙ none))
  where
    not_found : (found : Option (ℕ × Val)) → option_map (λ (w : ℕ × Val). w.1) found ≡ None → found ≡ None
    not_found None q = refl
    not_found (Some w) q = absurd (cc)

-- ---- a value that is set

-- An object that is open for writing, with what a call finds in its place.
pub record IsOpen (writes : List (ℕ × Val)) (places : List Place) (sets : List Bool) (o : ℕ) (place : Place) : Type 0 where
  pub placed : AreWritePlaces writes places
  pub long : length sets ≡ length writes
  pub below : o < length places
  pub some : IsSome (value_in writes o)
  pub found : place ≡ slice_index_or places o place

module _ {writes : List (ℕ × Val)} {places : List Place} {sets : List Bool} {o : ℕ} {place : Place}
    (at : IsOpen writes places sets o place) where
  pub stands : place.write ≢ 0
  stands none =
      let z : is_some (value_in writes o) ≡ true = at.some in
      let no = ap is_some (rw none at (found_write writes places at.placed o at.below place at.found)) in
      absurd (cc)

  -- its slot, which is the only one of the object
  pub slot_there : IsSlotOf pairs_sort writes o (place.write - 1)
  slot_there =
      stands_there at.placed o at.below place.write (write_is writes places at.placed o at.below place at.found) stands

  slot_only : (i : ℕ) → IsSlotOf pairs_sort writes o i → i ≡ place.write - 1
  slot_only i r = only at.placed o (place.write - 1) i slot_there r

  -- the value stands there
  pub set_there : (v : Val) (w : ℕ × Val) → w ≡ slice_index_or writes (place.write - 1) w →
      slice_set writes (place.write - 1) (w.0, v) ≡ with_value o v writes
  set_there v w is =
      rw (
        is ∙ get_or_default writes (place.write - 1) w no_write slot_there.within,
        with_value_is writes o (place.write - 1) v slot_there slot_only,
      ) refl

  -- the object was set to it
  pub set_here : (v : Val) →
      value_in (set_writes (slice_set sets (place.write - 1) true) (with_value o v writes)) o ≡ Some v
  set_here v = value_in-set_here sets writes o (place.write - 1) v at.long slot_there slot_only

  -- and the others to what they were set before
  pub set_others : (v : Val) (x : ℕ) → x ≢ o →
      value_in (set_writes (slice_set sets (place.write - 1) true) (with_value o v writes)) x
      ≡ value_in (set_writes sets writes) x
  set_others v x other =
      value_in-set_other sets writes o (place.write - 1) v x other slot_there slot_only
      (let w = slot_there.within in let long = at.long in omega arith)
