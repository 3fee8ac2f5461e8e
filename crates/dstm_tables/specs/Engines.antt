-- By which engine the table of a program works.
use Rattle.std.specs.Prelude.{◌≡◌, ◌+◌, false}
use Rattle.dstm_core.specs.declared.shape.Manager.{Manager}
use Rattle.dstm_core.specs.declared.shape.Shape.{Shape}
use Rattle.dstm_tables.specs.declared.engine.Engine.{Engine}
use Rattle.dstm_tables.specs.declared.engine.Engine.TheVariants as engine
use Rattle.dstm_tables.specs.declared.tables.Table.{Table}
use Rattle.dstm_tables.specs.declared.tables.Table.TheVariants.{Dstm, Tl2}

-- the shape of a table under a manager: with as many attempts as there can be, and two locators for each beside one for each
-- object
pub record IsShape (manager : Manager) (shape : Shape) : Type 0 where
  pub manager_is : shape.manager ≡ manager
  pub attempts : shape.attempts ≡ 65536
  pub locators : shape.locators ≡ shape.objects + 131072
  pub all_write : shape.all_write ≡ false

module _ {L : Type 0} where
  -- a table works by this engine: under DSTM with this shape, under TL2 with 2^54 attempts of each caller
  abbrev pub WorksBy : Engine → Table L → Type 0
  WorksBy (engine.Dstm manager) (Dstm home) = IsShape manager home.terms.shape
  WorksBy engine.Tl2 (Tl2 home) = home.terms.attempts ≡ 18014398509481984
  WorksBy engine table = ⊥
