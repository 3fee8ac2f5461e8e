-- What a call of the engine is to do.
use Rattle.std.specs.Prelude.{ℕ, List}
use Rattle.dstm_model.specs.declared.value.Val.{Val}

-- what a call on an attempt is to do; the writes are the attempt's, in the order of opening
pub data Work : Type 0 where
  Opening : (object : ℕ) → Work  -- the first open of an object, for reading or for writing
  Locking : (writes : List (ℕ × Val)) → Work  -- to lock what is written
  Finishing : (writes : List (ℕ × Val)) → Work  -- to commit, once all is locked
  Committing : (writes : List (ℕ × Val)) → Work  -- both

-- what a call is to do
pub data Task : Type 0 where
  Enrolling : Task
  Beginning : Task  -- to begin an attempt
  Returning : Task  -- to give back what a dropped attempt has locked: a retire
  Doing : (work : Work) → Task
