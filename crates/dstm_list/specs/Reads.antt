-- Which objects are reads, and what an operation on the list adds to them and opens for writing.
use Rattle.std.specs.Prelude.{◌≢◌, ℕ, ◌&&◌, Bool, IsTrue, is_some, not}
use Rattle.dstm_mem.specs.declared.memory.Mem.{Ghosts}

-- the object is among the reads, and was not opened for writing
abbrev pub IsRead : {S E : Type 0} → Ghosts S E → S → ℕ → Type 0
IsRead M memory o = IsTrue (is_some (M.held memory o) && not (M.is_opened memory o))

-- each read was one before
abbrev pub AddsNoRead : {S E : Type 0} → Ghosts S E → S → S → Type 0
AddsNoRead M old new = (p : ℕ) → IsRead M new p → IsRead M old p

-- each read but that of this object was one before
abbrev pub AddsReadOf : {S E : Type 0} → Ghosts S E → ℕ → S → S → Type 0
AddsReadOf M o old new = (p : ℕ) → p ≢ o → IsRead M new p → IsRead M old p

-- this object is opened for writing, and so is each that was
pub record OpensAlso (o : ℕ) (old new : ℕ → Bool) : Type 0 where
  pub opened : IsTrue (new o)
  pub stays : (p : ℕ) → IsTrue (old p) → IsTrue (new p)
