-- What a table was told that was made for a memory, and a caller that it was given.
use Rattle.std.proofs.Common.{◌≡◌, [], ℕ, List, refl}
use Rattle.dstm_model.specs.declared.value.Val.{Val}
use Rattle.dstm_attempts.specs.Attempts.{IsClosed}
use Rattle.dstm_attempts.proofs.Closed as closed
use Rattle.dstm_attempts.proofs.Numbers as numbers
use Rattle.dstm_tables.specs.Callers.{done}
use Rattle.dstm_tables.specs.Founders.{Enrols, founded, home_there}
use Rattle.dstm_tables.specs.declared.founding.Founder.{Founder}
use Rattle.dstm_tables.specs.declared.tables.Caller.{Caller}
use Rattle.dstm_tables.specs.declared.tables.Table.{Table}
use Rattle.dstm_tables.specs.declared.tables.Table.TheVariants as table

module _ {L : Type 0} where
  -- a caller that was just given out has no attempt under way
  pub enrolled_closed : (holds : L → List Val → Type 0) (f g : Founder L) (seed : ℕ) (k : Caller L) →
      Enrols holds f g seed k → IsClosed k
  enrolled_closed holds f g seed k enrols = closed.enrolled_closed holds f g seed k enrols

  -- and has committed nothing
  pub enrolled_none : (holds : L → List Val → Type 0) (f g : Founder L) (seed : ℕ) (k : Caller L) →
      Enrols holds f g seed k → done k ≡ []
  enrolled_none holds f g seed k enrols = numbers.enrolled_none holds f g seed k enrols

  -- a new founder is of its table
  pub founded_home : (t : Table L) → home_there (founded t) ≡ t
  founded_home (table.Dstm h) = refl
  founded_home (table.Tl2 h) = refl
