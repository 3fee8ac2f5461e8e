-- What a call on a transaction has found and put, of one map at which the attempt may have begun.
use Rattle.std.proofs.Common.{◌≡◌, ◌∙◌, ℕ, List, ap, slice_set, sym}
use Rattle.dstm_model.specs.declared.value.Val.{Val}
use Rattle.dstm_model.specs.Map.{value_at}
use Rattle.dstm_tables.specs.Callers.{law_of}
use Rattle.dstm_tables.specs.declared.tables.Caller.{Caller}
use Rattle.dstm_attempts.proofs.UnderWay.{may_lawful}
use Rattle.dstm_cells.specs.UnderWay.{Changes, Gets, MayBegin, seen}

-- values at which an attempt may have begun are lawful
pub lawful_at : {L : Type 0} (holds : L → List Val → Type 0) (k : Caller L) (map : List Val) → MayBegin holds k map →
    holds (law_of k) map
lawful_at holds k map may = may_lawful holds k map may

module _ {L T : Type 0} (holds : L → List Val → Type 0) (found : Val → T) (old new : Caller L) (cell : ℕ)
    (map before : List Val) where
  -- a cell was found to hold what it held before
  pub found_at : (value : T) → Gets holds found old new cell value → MayBegin holds new map → seen old map ≡ before →
      (value ≡ found (value_at before cell)) × (seen new map ≡ before) × MayBegin holds old map
  found_at value g may was =
      let same = g.finds.same map ∙ was in (
        g.is ∙ ap found (sym (g.finds.value map may) ∙ ap (λ (xs : List Val). value_at xs cell) same),
        same,
        g.finds.narrows map may,
      )

  -- a cell was set to this, and no other one
  pub put_at : (had value : T) → Changes holds found old new cell had value → MayBegin holds new map →
      seen old map ≡ before →
      ((after : Val) × (found after ≡ value) × (seen new map ≡ slice_set before cell after)) × MayBegin holds old map
  put_at had value s may was =
      let puts = s.exchanges.puts in (
        (s.after, s.is, puts.puts map ∙ ap (λ (xs : List Val). slice_set xs cell s.after) was),
        puts.narrows map may,
      )
