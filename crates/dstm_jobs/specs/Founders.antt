-- What contracts see of a table that was made for a workload.
use Rattle.std.specs.Prelude.{◌≡◌, List}
use Rattle.dstm_model.specs.declared.value.Val.{Val}
use Rattle.dstm_core.specs.declared.shape.Shape.{Shape}
use Rattle.dstm_options.specs.declared.options.Engine.{Engine}
use Rattle.dstm_store.specs.declared.law.StoreLaw.{StoreLaw}
use Rattle.dstm_tables.specs.Founders.{HasGivenNone, first_of}
use Rattle.dstm_tables.specs.Tells.{attempts_of, callers_of, start_of}
use Rattle.dstm_tables.specs.declared.tables.Round.TheVariants as round
use Rattle.dstm_jobs.specs.Tables.{Founder, IsOf, Round, Table, layout_of}

-- a table of DSTM has this shape
abbrev pub HasShape : Shape → Round → Type 0
HasShape shape (round.Dstm r) = r.terms.shape ≡ shape
HasShape shape (round.Tl2 r) = Unit {0}

-- a table was made so
pub record IsTold (engine : Engine) (values : List Val) (shape : Shape) (law : StoreLaw) (r : Round) : Type 0 where
  pub of_engine : IsOf engine r
  pub start : start_of r ≡ values
  pub layout : layout_of r ≡ law.layout
  pub callers : callers_of r ≡ shape.callers
  pub attempts : attempts_of r ≡ shape.attempts
  pub of_shape : HasShape shape r

-- a new table, and its founder
pub record IsFounded (engine : Engine) (values : List Val) (shape : Shape) (law : StoreLaw) (t : Table) (f : Founder) : Type 0 where
  pub told : IsTold engine values shape law (first_of t)
  pub founder : HasGivenNone t f
