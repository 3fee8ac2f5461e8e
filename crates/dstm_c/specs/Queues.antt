-- Queues by the numbers of their cells.
use Rattle.std.specs.Prelude.{◌≡◌, ◌⊎◌, ℕ, ◌+◌, ◌*◌, ◌<◌, List, Option, Result}
use Rattle.dstm_model.specs.declared.value.AnyLaw.{AnyLaw}
use Rattle.dstm_model.specs.declared.value.Val.{Val}
use Rattle.dstm_structures.specs.Queues.{Adds}
use Rattle.dstm_structures.specs.declared.queue.Queue.{Queue}
use Rattle.dstm_handles.specs.declared.code.Code.{Code}
use Rattle.dstm_handles.specs.declared.held.Held.{Held}
use Rattle.dstm_handles.specs.declared.thread.Thread.{Thread}
use Rattle.dstm_c.specs.Structures.{CallsNamed, MakesNamed, Pair, pair_of}

module _ (first capacity : ℕ) where
  -- this is the queue whose cells have these numbers
  abbrev pub IsQueue : Queue Pair → Type 0
  IsQueue queue = (queue.cells.first ≡ first) × (queue.cells.capacity ≡ capacity)

  -- no queue has such cells
  abbrev pub HasNoQueue : Type 0
  HasNoQueue = (capacity ≡ 0) ⊎ (524288 < first + capacity + 1)

  -- WHAT A CALL ON THE QUEUE of these numbers DOES
  abbrev pub OnQueue : {T : Type 0} → (Queue Pair → Thread → Thread → Result T Code → Type 0) →
      Option Held → Option Held → Result T Code → Type 0
  OnQueue = CallsNamed HasNoQueue IsQueue

-- the queue whose cells are those from this number on was made, and is empty
abbrev pub AddsQueue : (capacity first : ℕ) → List Val → List Val → Type 0
AddsQueue capacity first before after =
    (queue : Queue Pair) → IsQueue first capacity queue → Adds pair_of queue before after

-- WHAT MAKING A QUEUE DOES
abbrev pub MakesQueue : (AnyLaw → List Val → Type 0) → (capacity : ℕ) → Option Held → Option Held → Result ℕ Code → Type 0
MakesQueue holds capacity = MakesNamed holds (HasNoQueue 0 capacity) (capacity + 1) (AddsQueue capacity)
