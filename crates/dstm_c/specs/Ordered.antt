-- Ordered maps by the numbers of their cells.
use Rattle.std.specs.Prelude.{◌≡◌, ◌⊎◌, ℕ, ◌+◌, ◌*◌, ◌<◌, List, Option, Result}
use Rattle.dstm_model.specs.declared.value.AnyLaw.{AnyLaw}
use Rattle.dstm_model.specs.declared.value.Val.{Val}
use Rattle.dstm_structures.specs.Ordered.{Adds}
use Rattle.dstm_structures.specs.declared.ordered.OrderedMap.{OrderedMap}
use Rattle.dstm_handles.specs.declared.code.Code.{Code}
use Rattle.dstm_handles.specs.declared.held.Held.{Held}
use Rattle.dstm_handles.specs.declared.thread.Thread.{Thread}
use Rattle.dstm_c.specs.Structures.{CallsNamed, MakesNamed, Pair, pair_of}

module _ (first capacity : ℕ) where
  -- this is the map whose cells have these numbers
  abbrev pub IsMap : OrderedMap Pair → Type 0
  IsMap map = (map.map.cells.first ≡ first) × (map.map.cells.capacity ≡ capacity)

  -- no map has such cells
  abbrev pub HasNoMap : Type 0
  HasNoMap = (capacity ≡ 0) ⊎ (524288 < first + 3 * capacity + 1)

  -- WHAT A CALL ON THE MAP of these numbers DOES
  abbrev pub OnMap : {T : Type 0} → (OrderedMap Pair → Thread → Thread → Result T Code → Type 0) →
      Option Held → Option Held → Result T Code → Type 0
  OnMap = CallsNamed HasNoMap IsMap

-- the map whose cells are those from this number on was made, and is empty
abbrev pub AddsMap : (capacity first : ℕ) → List Val → List Val → Type 0
AddsMap capacity first before after =
    (map : OrderedMap Pair) → IsMap first capacity map → Adds pair_of map before after

-- WHAT MAKING A MAP DOES
abbrev pub MakesMap : (AnyLaw → List Val → Type 0) → (capacity : ℕ) → Option Held → Option Held → Result ℕ Code → Type 0
MakesMap holds capacity = MakesNamed holds (HasNoMap 0 capacity) (3 * capacity + 1) (AddsMap capacity)
