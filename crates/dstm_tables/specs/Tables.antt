-- What contracts see of a table of either engine.
use Rattle.std.specs.Prelude.{◌≡◌, ℕ, List, length}
use Rattle.dstm_model.specs.declared.value.Val.{Val}
use Rattle.dstm_core.specs.declared.shape.Shape.{Shape}
use Rattle.dstm_tables.specs.declared.tables.Table.{Table}
use Rattle.dstm_tables.specs.declared.tables.Table.TheVariants.{Dstm, Tl2}

module _ {L : Type 0} where
  -- ---- what it was told

  abbrev pub law_there : Table L → L
  law_there (Dstm h) = h.terms.law.value
  law_there (Tl2 h) = h.terms.law.value

  abbrev pub start_there : Table L → List Val
  start_there (Dstm h) = h.terms.start.value.items
  start_there (Tl2 h) = h.terms.start.value.items

  abbrev pub objects_there : Table L → ℕ
  objects_there (Dstm h) = h.terms.shape.objects
  objects_there (Tl2 h) = length h.terms.start.value.items

  abbrev pub callers_there : Table L → ℕ
  callers_there (Dstm h) = h.terms.shape.callers
  callers_there (Tl2 h) = h.terms.callers

  abbrev pub attempts_there : Table L → ℕ
  attempts_there (Dstm h) = h.terms.shape.attempts
  attempts_there (Tl2 h) = h.terms.attempts

  -- ---- which engine it is of

  -- of DSTM, of this shape
  abbrev pub IsByDstm : Shape → Table L → Type 0
  IsByDstm shape (Dstm h) = h.terms.shape ≡ shape
  IsByDstm shape (Tl2 h) = ⊥

  -- of TL2, for so many callers and so many attempts of each
  abbrev pub IsByTl2 : (callers attempts : ℕ) → Table L → Type 0
  IsByTl2 callers attempts (Dstm h) = ⊥
  IsByTl2 callers attempts (Tl2 h) = (h.terms.callers ≡ callers) × (h.terms.attempts ≡ attempts)
