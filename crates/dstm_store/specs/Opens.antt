-- Which of its own objects a job sets and opens for writing: its operations' replies tell it.
use Rattle.std.specs.Prelude.{◌≡◌, ◌⊎◌, ℕ, List, All, zip, IsSome, false}
use Rattle.dstm_model.specs.declared.reply.Reply.{Reply}
use Rattle.dstm_mem.specs.declared.memory.Mem.{Ghosts}
use Rattle.dstm_mem.specs.Operates.{IsLook, SetsAll}
use Rattle.dstm_store.specs.declared.job.JobTask.{JobTask}
use Rattle.dstm_store.specs.Concerns.{Concerns}

-- each operation that is about object o is a look, by its reply
abbrev pub OnlyLooksAt : JobTask → List Reply → ℕ → Type 0
OnlyLooksAt task replies o =
    All (λ ran. IsLook ran.0 ran.1 ⊎ ¬ (Concerns task.layout ran.0 o)) (zip task.ops replies)

-- each operation that is about object o sets whatever it newly opens for writing, by its reply
abbrev pub SetsIfOpened : JobTask → List Reply → ℕ → Type 0
SetsIfOpened task replies o =
    All (λ ran. SetsAll ran.0 ran.1 ⊎ ¬ (Concerns task.layout ran.0 o)) (zip task.ops replies)

-- object o is set as before, and where reads do not open for writing it is opened for writing as before
pub record IsOnlyRead {S E : Type 0} (M : Ghosts S E) (o : ℕ) (old new : S) : Type 0 where
  pub sets : M.written new o ≡ M.written old o
  pub opens : M.all_write (M.place old) ≡ false → M.is_opened new o ≡ M.is_opened old o

-- object o stays set where it was, and where reads do not open for writing it is set if it is newly opened for writing
pub record IsOpenedToSet {S E : Type 0} (M : Ghosts S E) (o : ℕ) (old new : S) : Type 0 where
  pub stays : IsSome (M.written old o) → IsSome (M.written new o)
  pub opens : M.all_write (M.place old) ≡ false →
      (M.is_opened new o ≡ M.is_opened old o) ⊎ IsSome (M.written new o)
