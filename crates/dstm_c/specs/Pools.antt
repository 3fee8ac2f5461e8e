-- Pools by the numbers of their cells.
use Rattle.std.specs.Prelude.{◌≡◌, ◌⊎◌, ℕ, ◌+◌, ◌*◌, ◌<◌, List, Option, Result}
use Rattle.dstm_model.specs.declared.value.AnyLaw.{AnyLaw}
use Rattle.dstm_model.specs.declared.value.Val.{Val}
use Rattle.dstm_structures.specs.Pools.{Adds}
use Rattle.dstm_structures.specs.declared.pool.Pool.{Pool}
use Rattle.dstm_handles.specs.declared.code.Code.{Code}
use Rattle.dstm_handles.specs.declared.held.Held.{Held}
use Rattle.dstm_handles.specs.declared.thread.Thread.{Thread}
use Rattle.dstm_c.specs.Structures.{CallsNamed, MakesNamed, Pair}

module _ (first cells : ℕ) where
  -- this is the pool whose cells have these numbers
  abbrev pub IsPool : Pool Pair → Type 0
  IsPool pool = (pool.cells.first ≡ first) × (pool.cells.capacity ≡ cells)

  -- no pool has such cells
  abbrev pub HasNoPool : Type 0
  HasNoPool = (cells ≡ 0) ⊎ (524288 < first + 2 * cells)

  -- WHAT A CALL ON THE POOL of these numbers DOES
  abbrev pub OnPool : {T : Type 0} → (Pool Pair → Thread → Thread → Result T Code → Type 0) →
      Option Held → Option Held → Result T Code → Type 0
  OnPool = CallsNamed HasNoPool IsPool

-- the pool whose cells are those from this number on was made, and is empty
abbrev pub AddsPool : (cells first : ℕ) → List Val → List Val → Type 0
AddsPool cells first before after =
    (pool : Pool Pair) → IsPool first cells pool → Adds pool before after

-- WHAT MAKING A POOL DOES
abbrev pub MakesPool : (AnyLaw → List Val → Type 0) → (cells : ℕ) → Option Held → Option Held → Result ℕ Code → Type 0
MakesPool holds cells = MakesNamed holds (HasNoPool 0 cells) (2 * cells) (AddsPool cells)
