-- The cells of a memory between runs, and the table of a run.
use Rattle.std.specs.Prelude.{◌≡◌, ◌≢◌, ◌⊎◌, ℕ, ◌+◌, ◌<◌, ◌≤◌, All, Some, replicate, slice_index_or, slice_set, List, [], ◌∷◌, ◌++◌, length, sum_by}
use Rattle.dstm_model.specs.Map.{value_at}
use Rattle.dstm_model.specs.declared.value.Val.{Val}
use Rattle.dstm_cells.specs.declared.cell.Cell.{Cell}
use Rattle.dstm_cells.specs.declared.error.Failed.{Failed}
use Rattle.dstm_cells.specs.declared.memory.Ended.{Ended}
use Rattle.dstm_cells.specs.declared.error.Failed.TheVariants as failed
use Rattle.dstm_tables.specs.Callers.{draws}
use Rattle.dstm_tables.specs.Founders.{Enrols, founded}
use Rattle.dstm_tables.specs.Tables.{law_there, objects_there, start_there}
use Rattle.dstm_tables.specs.declared.founding.Founder.{Founder}
use Rattle.dstm_tables.specs.declared.tables.Caller.{Caller}
use Rattle.dstm_tables.specs.declared.tables.Table.{Table}
use Rattle.dstm_attempts.specs.Attempts.{Begins, Settles, TakesEffect, above, objects_of}
use Rattle.dstm_cells.specs.Attempts.{CouldNotRead, ReadsInTurn, WereDisturbed}

-- a cell was added to the values of those before, and holds this, by what two words stand for
pub record Adds {T : Type 0} (found : Val → T) (old new : List Val) (cell : ℕ) (value : T) : Type 0 where
  pub kept : Val
  pub is : found kept ≡ value
  pub last : new ≡ old ++ (kept ∷ [])
  pub number : cell ≡ length old

-- why no cell was added: the memory has no room for it, or there was not enough memory
abbrev pub WantsRoom : Failed → Type 0
WantsRoom why = (why ≡ failed.Full) ⊎ (why ≡ failed.Memory)

-- these cells have the numbers from this one on
abbrev pub AreNamed : {T : Type 0} → (first : ℕ) → List (Cell T) → Type 0
AreNamed {T} first cells =
    (place : ℕ) (other : Cell T) → place < length cells → (slice_index_or cells place other).object ≡ first + place

-- cells were added behind the values of those before, and each holds this
pub record AddsAll {T : Type 0} (found : Val → T) (old new : List Val) (cells : List (Cell T)) (value : T) : Type 0 where
  pub kept : Val
  pub is : found kept ≡ value
  pub behind : new ≡ old ++ replicate (length cells) kept
  pub named : AreNamed (length old) cells

-- a cell was set between runs: it held one value, holds another, and no other cell was set
pub record Sets {T : Type 0} (found : Val → T) (old new : List Val) (cell : ℕ) (had value : T) : Type 0 where
  pub held : had ≡ found (value_at old cell)
  pub kept : Val
  pub is : found kept ≡ value
  pub set : new ≡ slice_set old cell kept

-- a number comes too early: one of these threads has committed under a number that is no smaller
pub record ComesTooEarly {T : Type 0} (ends : List (Ended T)) (at : ℕ) : Type 0 where
  pub number : ℕ
  pub below : number < length ends
  pub newest : ℕ
  pub told : (other : Ended T) → (slice_index_or ends number other).newest ≡ Some newest
  pub early : at ≤ newest

-- how many numbers these threads have drawn, as they tell
abbrev pub drawn_by : {T : Type 0} → List (Ended T) → ℕ
drawn_by {T} ends = sum_by (λ (ended : Ended T). ended.draws) ends

module _ {L : Type 0} (rule : L) (values : List Val) where
  -- a table has an object for each of these values, under this law
  pub record IsFor (table : Table L) : Type 0 where
    pub law : law_there table ≡ rule
    pub objects : objects_there table ≡ length values

  -- and it was made of them
  pub record Starts (table : Table L) : Type 0 where
    pub made_for : IsFor table
    pub start : start_there table ≡ values

  -- and nobody has a part in it yet
  pub record Founds (table : Table L) (f : Founder L) : Type 0 where
    pub starts : Starts table
    pub founder : f ≡ founded table

-- these are the values before and after a transaction, which sets none
abbrev pub AreValues : List Val → List Val → List Val → Type 0
AreValues values before after = (before ≡ values) × (after ≡ values)

module _ {L : Type 0} (holds : L → List Val → Type 0) where
  -- THE VALUES OF ALL OBJECTS WERE READ: some attempts of the caller were disturbed, and one more began behind them, opened the
  -- objects for reading in turn, and took effect; nothing else was done. So the caller has committed one transaction more, and in
  -- every run these are the values of the objects at its place in the order of all transactions, before it and after it.
  pub record ReadsAll (k : Caller L) (values : List Val) : Type 0 where
    pub attempts : ℕ
    pub before : Caller L
    pub disturbed : WereDisturbed holds attempts k before
    pub began : Caller L
    pub begins : Begins holds before began
    pub last : Caller L
    pub reads : ReadsInTurn holds (objects_of began) began last
    pub after : Caller L
    pub takes : TakesEffect holds last after
    pub settles : Settles holds (AreValues values) k after takes.number

  -- THEY WERE READ BEHIND what some threads have committed: under a greater number than any of theirs. All numbers up to that
  -- one were drawn by these threads, and by the caller that reads.
  pub record ReadsBehind {T : Type 0} (ends : List (Ended T)) (k : Caller L) (values : List Val) : Type 0 where
    pub reads : ReadsAll k values
    pub behind : All (λ (ended : Ended T). above ended.newest ≤ reads.takes.number) ends
    pub all : drawn_by ends + draws reads.after ≡ reads.takes.number + 1

  -- they were not: one of these threads has committed under a greater number, or somebody else has drawn one
  pub record ReadsAmiss {T : Type 0} (ends : List (Ended T)) (k : Caller L) : Type 0 where
    pub values : List Val
    pub reads : ReadsAll k values
    pub amiss : ComesTooEarly ends reads.takes.number ⊎ (drawn_by ends + draws reads.after ≢ reads.takes.number + 1)

  -- they were read by a new caller of a table
  pub record Takes (f g : Founder L) (values : List Val) : Type 0 where
    pub caller : Caller L
    pub enrols : Enrols holds f g 0 caller
    pub reads : ReadsAll caller values

  -- they could not be read by a new caller of a table, in 64 attempts
  pub record LeavesUnread (f g : Founder L) : Type 0 where
    pub caller : Caller L
    pub enrols : Enrols holds f g 0 caller
    pub after : Caller L
    pub unread : CouldNotRead holds 64 caller after

  -- no caller of a table was given out, or one
  abbrev pub GivesAtMostOne : (f g : Founder L) → Type 0
  GivesAtMostOne f g = (g ≡ f) ⊎ ((caller : Caller L) × Enrols holds f g 0 caller)
