-- What an attempt has open.
use Rattle.std.specs.Prelude.{◌≡◌, ℕ, ◌^◌, ◌<◌, ◌≤◌, ◌==◌, Bool, true, List, [], ◌∷◌, find, length, slice_index_or, vec_capacity, Option, None, Some, if◌then◌else◌}
use Rattle.dstm_mem.specs.Slots.{ArePlacedBy, Sort, pairs_sort}
use Rattle.dstm_mem.specs.declared.places.Place.{Place}
use Rattle.dstm_model.specs.Map.{no_value}
use Rattle.dstm_model.specs.declared.value.Val.{Val}
use Rattle.dstm_tl2.specs.State.{no_write}
use Rattle.dstm_tl2_steps.specs.declared.opened.Opened.TheInside.{Inside}
use Rattle.dstm_tl2_steps.specs.declared.opened.ReadSlot.{ReadSlot}

pub record OpenedAs : Type 0 where
  pub objects : ℕ  -- of the table
  pub reads : List ReadSlot  -- the oldest first
  pub writes : List (ℕ × Val)  -- the objects open for writing, each with its new value, the oldest first
  pub set : List (ℕ × Val)  -- those of them that were set

-- the read of an object
abbrev pub read_slot : List ReadSlot → ℕ → Option ReadSlot
read_slot slots o = find (λ (slot : ReadSlot). slot.object == o) slots

-- the value that an object's slots hand out: the new one, or else the one that was read
abbrev pub slots_value : Option Val → Option ReadSlot → Option Val
slots_value None None = None
slots_value None (Some read) = Some read.value
slots_value (Some value) read = Some value

-- the writes with another value for an object
abbrev pub with_value : ℕ → Val → List (ℕ × Val) → List (ℕ × Val)
with_value o v [] = []
with_value o v (w ∷ ws) = if w.0 == o then (o, v) ∷ ws else w ∷ with_value o v ws

-- ---- where each object stands

abbrev pub no_slot : ReadSlot
no_slot = record { object = 0; word = 0; value = no_value }

abbrev pub read_at : List ReadSlot → ℕ → ReadSlot
read_at slots i = slice_index_or slots i no_slot

abbrev pub write_at : List (ℕ × Val) → ℕ → ℕ × Val
write_at writes i = slice_index_or writes i no_write

-- the writes that were set
abbrev pub set_writes : List Bool → List (ℕ × Val) → List (ℕ × Val)
set_writes [] writes = []
set_writes (s ∷ sets) [] = []
set_writes (s ∷ sets) (w ∷ writes) = if s then w ∷ set_writes sets writes else set_writes sets writes

-- which objects the reads are of
abbrev pub reads_sort : Sort ReadSlot
reads_sort = record { object = λ (slot : ReadSlot). slot.object; counts = λ (slot : ReadSlot). true; none = no_slot }

-- each object finds its read there
abbrev pub AreReadPlaces : List ReadSlot → List Place → Type 0
AreReadPlaces reads places = ArePlacedBy (λ (place : Place). place.read) reads_sort reads places

-- and what it is open for writing with
abbrev pub AreWritePlaces : List (ℕ × Val) → List Place → Type 0
AreWritePlaces writes places = ArePlacedBy (λ (place : Place). place.write) pairs_sort writes places

pub record HasPlaces (o : Inside) : Type 0 where
  pub reads : AreReadPlaces o.reads.items o.places.items
  pub writes : AreWritePlaces o.writes.items o.places.items
  pub sets : length o.sets.items ≡ length o.writes.items
  pub room : (length o.places.items ≤ vec_capacity o.reads) × (length o.places.items ≤ vec_capacity o.writes)
      × (length o.places.items ≤ vec_capacity o.sets)
  pub few : (length o.reads.items ≤ length o.places.items) × (length o.writes.items ≤ length o.places.items)
      × (length o.places.items < 2 ^ 31)
