-- Private: slots of objects in a list, and where the slot of each object stands. The invariants of what an attempt has open, of
-- either engine, are said by it.
use Rattle.std.specs.Prelude.{◌≡◌, ◌≢◌, ℕ, ◌+◌, ◌-◌, ◌<◌, ◌==◌, Bool, true, List, length, slice_get, slice_index_or, Option, None, if◌then◌else◌}
use Rattle.dstm_model.specs.declared.value.Val.{Val}
use Rattle.dstm_model.specs.Map.{no_value}
use Rattle.dstm_mem.specs.declared.places.Place.{Place}

-- What is known of a slot: its object, and whether it counts; and a slot that stands for none.
pub record Sort (T : Type 0) : Type 0 where
  pub object : T → ℕ
  pub counts : T → Bool
  pub none : T

abbrev pub slot_at : {T : Type 0} → Sort T → List T → ℕ → T
slot_at sort slots i = slice_index_or slots i sort.none

-- the slot at a place that is the slot's number plus 1, or 0
abbrev pub slot_in : {T : Type 0} → List T → ℕ → Option T
slot_in slots place = if place == 0 then None else slice_get slots (place - 1)

-- the slot of the object, which counts
pub record IsSlotOf {T : Type 0} (sort : Sort T) (slots : List T) (o i : ℕ) : Type 0 where
  pub within : i < length slots
  pub counts : sort.counts (slot_at sort slots i) ≡ true
  pub object : sort.object (slot_at sort slots i) ≡ o

-- An object finds its slot: its place is the slot's number plus 1, or 0.
pub record ArePlaced {T : Type 0} (sort : Sort T) (slots : List T) (objects : ℕ) (place : ℕ → ℕ) : Type 0 where
  pub below : (i : ℕ) → i < length slots → sort.object (slot_at sort slots i) < objects
  pub placed : (o i : ℕ) → IsSlotOf sort slots o i → place o ≡ i + 1
  pub places : (o : ℕ) → o < objects → place o ≢ 0 → IsSlotOf sort slots o (place o - 1)

-- ---- the places of reads and writes

abbrev pub no_place : Place
no_place = record { read = 0; write = 0 }

abbrev pub place_at : List Place → ℕ → Place
place_at places o = slice_index_or places o no_place

-- each object finds its slot by this part of its place
abbrev pub ArePlacedBy : {T : Type 0} → (Place → ℕ) → Sort T → List T → List Place → Type 0
ArePlacedBy part sort slots places = ArePlaced sort slots (length places) (λ o. part (place_at places o))

-- pairs of an object and its value, which all count
abbrev pub pairs_sort : Sort (ℕ × Val)
pairs_sort = record { object = λ (p : ℕ × Val). p.0; counts = λ (p : ℕ × Val). true; none = (0, no_value) }
