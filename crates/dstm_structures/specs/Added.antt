-- The cells of a new structure, behind those that a memory had.
use Rattle.std.specs.Prelude.{◌≡◌, ℕ, List, ◌++◌, length}
use Rattle.dstm_model.specs.declared.value.Val.{Val}

-- so many cells were added to the values of those before, from this number on
pub record AddsCells (number many : ℕ) (before after : List Val) : Type 0 where
  pub added : List Val
  pub behind : after ≡ before ++ added
  pub first : number ≡ length before
  pub count : length added ≡ many
