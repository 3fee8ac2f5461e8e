-- How many objects the list's operations keep where reads are let go.
use Rattle.std.specs.Prelude.{ℕ, ◌≤◌, List, length, Contains, Bool, true, false, IsTrue, IsSome, ◌⊎◌}
use Rattle.dstm_model.specs.declared.op.Op.{Op}
use Rattle.dstm_model.specs.declared.op.Op.TheVariants.{Insert, Remove, Member}
use Rattle.dstm_model.specs.declared.op.Which.TheVariants as which
use Rattle.dstm_mem.specs.declared.memory.Mem.{Ghosts}

-- it is an operation of the list
abbrev pub is_of_list : Op → Bool
is_of_list (Insert which.List key) = true
is_of_list (Remove which.List key) = true
is_of_list (Member which.List key) = true
is_of_list op = false

-- How many objects an operation of the list keeps at most. A lookup keeps the three of its walk. A removal keeps the
-- head of the free chain, too, and an insertion that and the node that it takes.
abbrev pub most_kept : Op → ℕ
most_kept (Insert which key) = 5
most_kept (Remove which key) = 4
most_kept op = 3

-- the object is held, set or opened for writing
abbrev pub IsTouched : {S E : Type 0} → Ghosts S E → S → ℕ → Type 0
IsTouched M memory o = IsSome (M.held memory o) ⊎ (IsSome (M.written memory o) ⊎ IsTrue (M.is_opened memory o))

-- at most so many objects are touched that were not before
pub record TouchesAtMost {S E : Type 0} (most : ℕ) (M : Ghosts S E) (old new : S) : Type 0 where
  pub objects : List ℕ
  pub few : length objects ≤ most
  pub each : (o : ℕ) → IsTouched M new o → IsTouched M old o ⊎ Contains objects o
