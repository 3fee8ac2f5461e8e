-- Private: the writes of an attempt, as the code keeps them.
use Rattle.std.specs.Prelude.{ℕ, List}
use Rattle.dstm_core.specs.declared.state.Write.{Write}

-- the objects opened for writing, and how many of them have their new value put
pub record Worklist : Type 0 where
  pub writes : List Write
  pub written : ℕ
