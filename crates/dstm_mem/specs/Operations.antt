-- What an operation on a memory needs, and what it leaves. M has the meanings of the memory's kind.
use Rattle.std.specs.Prelude.{◌≡◌, ℕ, List, IsTrue, false, None, Some, IsSome, Result, OnOk, IfErr, ◌⊎◌}
use Rattle.dstm_model.specs.declared.value.Val.{Val}
use Rattle.dstm_mem.specs.declared.memory.Mem.{Ghosts}
use Rattle.dstm_mem.specs.Memory.{with_set}

-- the memory is live and has n objects, and each map that it admits, with what is set, stands for something
pub record IsReady {S E A : Type 0} (M : Ghosts S E) (n : ℕ) (StandsFor : List Val → A → Type 0)
    (memory : S) : Type 0 where
  pub objects : M.objects memory ≡ n
  pub live : IsTrue (M.is_live memory)
  pub lawful : (map : List Val) → M.Admits memory map → (a : A) × StandsFor (with_set map (M.written memory)) a

-- the memory is live and admits a map, and in it nothing was read, set or opened for writing
pub record IsFresh {S E : Type 0} (M : Ghosts S E) (memory : S) : Type 0 where
  pub live : IsTrue (M.is_live memory)
  pub admits : (map : List Val) × M.Admits memory map
  pub unread : (o : ℕ) → M.held memory o ≡ None
  pub unwritten : (o : ℕ) → M.written memory o ≡ None
  pub unopened : (o : ℕ) → M.is_opened memory o ≡ false
  pub untouched : (map : List Val) → with_set map (M.written memory) ≡ map

-- The operation leads from the old state of a memory to the new one: it is the same memory, and admits no map
-- that it did not admit. Without an error it is live, admits a map, and holds what it held; else its end is
-- this error.
pub record Leads {S E A : Type 0} (M : Ghosts S E) (old new : S) (result : Result A E) : Type 0 where
  pub place : M.place new ≡ M.place old
  pub objects : M.objects new ≡ M.objects old
  pub narrows : (map : List Val) → M.Admits new map → M.Admits old map
  pub admits : OnOk result ((map : List Val) × M.Admits new map)
  pub live : OnOk result (IsTrue (M.is_live new))
  pub holds : OnOk result ((o : ℕ) → IsSome (M.held old o) → M.held new o ≡ M.held old o)
  pub ended : IfErr result (λ e. (M.is_live new ≡ false) × (M.error new ≡ Some e))

-- nothing is set, and where reads do not open for writing nothing is newly opened for writing
pub record OnlyReads {S E : Type 0} (M : Ghosts S E) (old new : S) : Type 0 where
  pub sets : (o : ℕ) → M.written new o ≡ M.written old o
  pub opens : M.all_write (M.place old) ≡ false → (o : ℕ) → M.is_opened new o ≡ M.is_opened old o

-- what was set stays set, and where reads do not open for writing each object that is newly opened for writing
-- is set
pub record OpensToSet {S E : Type 0} (M : Ghosts S E) (old new : S) : Type 0 where
  pub stays : (o : ℕ) → IsSome (M.written old o) → IsSome (M.written new o)
  pub opens : M.all_write (M.place old) ≡ false →
      (o : ℕ) → (M.is_opened new o ≡ M.is_opened old o) ⊎ IsSome (M.written new o)
