-- Private: the reads of an attempt, as the code keeps them.
use Rattle.std.specs.Prelude.{ℕ, List}
use Rattle.dstm_core.specs.declared.state.Read.{Read}

-- the reads recorded, and how many of them were checked
pub record Checklist : Type 0 where
  pub reads : List Read
  pub checked : ℕ
