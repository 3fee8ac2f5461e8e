-- What an attempt has open.
use Rattle.std.specs.Prelude.{◌≡◌, ℕ, ◌+◌, ◌*◌, ◌^◌, ◌<◌, ◌≤◌, ◌==◌, List, [], ◌∷◌, filter, find, length, slice_index_or, vec_capacity, Option, None, Some, if◌then◌else◌}
use Rattle.dstm_steps.specs.Writes.{to_put}
use Rattle.dstm_steps.specs.declared.slots.ReadSlot.{ReadSlot}
use Rattle.dstm_steps.specs.declared.slots.WriteSlot.{WriteSlot}
use Rattle.dstm_steps.specs.Sorts.{is_kept, no_read, no_write, reads_sort, writes_sort}
use Rattle.dstm_mem.specs.Slots.{ArePlacedBy}
use Rattle.dstm_mem.specs.declared.places.Place.{Place}
use Rattle.dstm_model.specs.declared.value.Val.{Val}
use Rattle.dstm_engine.specs.declared.opened.Opened.TheInside.{Inside}

pub record OpenedAs : Type 0 where
  pub objects : ℕ  -- of the table
  pub reads : List ReadSlot  -- the reads that are kept, the oldest first
  pub writes : List WriteSlot  -- the objects open for writing, the oldest first

-- the value that an object's slots hand out: the one last set, or else the one that is held
abbrev pub slots_value : Option WriteSlot → Option ReadSlot → Option Val
slots_value None None = None
slots_value None (Some read) = Some read.value
slots_value (Some write) read = Some (to_put write)

-- the read of an object
abbrev pub read_slot : List ReadSlot → ℕ → Option ReadSlot
read_slot slots o = find (λ (slot : ReadSlot). slot.object == o) slots

-- what an object is open for writing with
abbrev pub write_slot : List WriteSlot → ℕ → Option WriteSlot
write_slot slots o = find (λ (slot : WriteSlot). slot.object == o) slots

-- the reads without that of an object
abbrev pub without_read : ℕ → List ReadSlot → List ReadSlot
without_read o [] = []
without_read o (slot ∷ slots) = if slot.object == o then slots else slot ∷ without_read o slots

-- with a value set for an object
abbrev pub with_set_slot : ℕ → Val → List WriteSlot → List WriteSlot
with_set_slot o v [] = []
with_set_slot o v (slot ∷ slots) =
    if slot.object == o then record slot { new = Some v } ∷ slots else slot ∷ with_set_slot o v slots

-- ---- where each object stands

abbrev pub read_at : List ReadSlot → ℕ → ReadSlot
read_at slots i = slice_index_or slots i no_read

abbrev pub write_at : List WriteSlot → ℕ → WriteSlot
write_at slots i = slice_index_or slots i no_write

-- each object finds its read there
abbrev pub AreReadPlaces : List ReadSlot → List Place → Type 0
AreReadPlaces reads places = ArePlacedBy (λ (place : Place). place.read) reads_sort reads places

-- and what it is open for writing with
abbrev pub AreWritePlaces : List WriteSlot → List Place → Type 0
AreWritePlaces writes places = ArePlacedBy (λ (place : Place). place.write) writes_sort writes places

-- no two slots are of one object
abbrev pub AreApart : List ReadSlot → Type 0
AreApart slots =
    (i j : ℕ) → i < length slots → j < length slots → (read_at slots i).object ≡ (read_at slots j).object → i ≡ j

pub record HasPlaces (o : Inside) : Type 0 where
  pub reads : AreReadPlaces o.reads.items o.places.items
  pub writes : AreWritePlaces o.writes.items o.places.items
  pub room : (2 * length o.places.items ≤ vec_capacity o.reads) × (length o.places.items ≤ vec_capacity o.writes)
  pub few : (length o.reads.items ≤ 2 * length o.places.items) × (length o.writes.items ≤ length o.places.items)
      × (length o.places.items < 2 ^ 31)
  pub counted : o.gone + length (filter is_kept o.reads.items) ≡ length o.reads.items
