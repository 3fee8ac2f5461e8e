-- Sets by the numbers of their cells.
use Rattle.std.specs.Prelude.{◌≡◌, ◌⊎◌, ℕ, ◌+◌, ◌*◌, ◌<◌, List, Option, Result}
use Rattle.dstm_model.specs.declared.value.AnyLaw.{AnyLaw}
use Rattle.dstm_model.specs.declared.value.Val.{Val}
use Rattle.dstm_structures.specs.Sets.{Adds}
use Rattle.dstm_structures.specs.declared.set.OrderedSet.{OrderedSet}
use Rattle.dstm_handles.specs.declared.code.Code.{Code}
use Rattle.dstm_handles.specs.declared.held.Held.{Held}
use Rattle.dstm_handles.specs.declared.thread.Thread.{Thread}
use Rattle.dstm_c.specs.Structures.{CallsNamed, MakesNamed}

module _ (first capacity : ℕ) where
  -- this is the set whose cells have these numbers
  abbrev pub IsSet : OrderedSet → Type 0
  IsSet set = (set.map.map.cells.first ≡ first) × (set.map.map.cells.capacity ≡ capacity)

  -- no set has such cells
  abbrev pub HasNoSet : Type 0
  HasNoSet = (capacity ≡ 0) ⊎ (524288 < first + 3 * capacity + 1)

  -- WHAT A CALL ON THE SET of these numbers DOES
  abbrev pub OnSet : {T : Type 0} → (OrderedSet → Thread → Thread → Result T Code → Type 0) →
      Option Held → Option Held → Result T Code → Type 0
  OnSet = CallsNamed HasNoSet IsSet

-- the set whose cells are those from this number on was made, and is empty
abbrev pub AddsSet : (capacity first : ℕ) → List Val → List Val → Type 0
AddsSet capacity first before after =
    (set : OrderedSet) → IsSet first capacity set → Adds set before after

-- WHAT MAKING A SET DOES
abbrev pub MakesSet : (AnyLaw → List Val → Type 0) → (capacity : ℕ) → Option Held → Option Held → Result ℕ Code → Type 0
MakesSet holds capacity = MakesNamed holds (HasNoSet 0 capacity) (3 * capacity + 1) (AddsSet capacity)
