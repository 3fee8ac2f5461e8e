-- The cells of a memory, and the table on which threads change them.
use Rattle.std.specs.Prelude.{◌≡◌, ◌≢◌, ◌⊎◌, ◌↔◌, ℕ, ◌+◌, ◌%◌, ◌^◌, ◌<◌, ◌≤◌, false, List, [], ◌∷◌, ◌++◌, length, replicate, Err, IfErr, IfOk, OnOk, Option, None, Result, Some}
use Rattle.std.specs.Arc.{arc_value}
use Rattle.dstm_model.specs.Map.{value_at}
use Rattle.dstm_model.specs.declared.value.AnyLaw.{AnyLaw}
use Rattle.dstm_model.specs.declared.value.Val.{Val}
use Rattle.dstm_tables.specs.Callers.{home_of}
use Rattle.dstm_tables.specs.Engines.{WorksBy}
use Rattle.dstm_tables.specs.Founders.{Enrols, founded}
use Rattle.dstm_tables.specs.Tables.{objects_there, start_there}
use Rattle.dstm_tables.specs.declared.engine.Engine.{Engine}
use Rattle.dstm_tables.specs.declared.founding.Founder.{Founder}
use Rattle.dstm_tables.specs.declared.tables.Caller.{Caller}
use Rattle.dstm_tables.specs.declared.tables.Table.{Table}
use Rattle.dstm_attempts.specs.Attempts.{AddsNothing, Begins, Keeps, Settles, TakesEffect}
use Rattle.dstm_handles.specs.Threads.{caller_of}
use Rattle.dstm_handles.specs.declared.code.Code.{Code}
use Rattle.dstm_handles.specs.declared.code.Code.TheVariants.{Busy, Done, Foreign, Full, Range, Spent}
use Rattle.dstm_handles.specs.declared.code.Code.TheVariants as code
use Rattle.dstm_handles.specs.declared.memory.Home.{Home}
use Rattle.dstm_handles.specs.declared.memory.Memory.{Memory}
use Rattle.dstm_handles.specs.declared.thread.Thread.{Thread}

-- these are the values before and after a transaction, which sets none
abbrev pub AreValues : List Val → List Val → List Val → Type 0
AreValues values before after = (before ≡ values) × (after ≡ values)

-- a table was made of these values
abbrev pub StartsWith : List Val → Table AnyLaw → Type 0
StartsWith values table = (start_there table ≡ values) × (objects_there table ≡ length values)

-- its table
abbrev pub table_at : Home → Table AnyLaw
table_at home = arc_value home.table

-- there is a table, and it is this one
abbrev pub IsAt : Option Home → Table AnyLaw → Type 0
IsAt None table = ⊥
IsAt (Some home) table = table_at home ≡ table

-- WHY A MEMORY DOES NOT TAKE ITS VALUES BACK: threads have parts in it, or came between; or its own part is spent; or there was
-- not enough memory
abbrev pub IsWithheld : Code → Type 0
IsWithheld why = (why ≡ Busy) ⊎ (why ≡ Spent) ⊎ (why ≡ code.Memory)

-- a table stays, and its founder has given out no part; the memory's own part has committed nothing more
pub record StaysHome (old new : Home) : Type 0 where
  pub table : table_at new ≡ table_at old
  pub founder : new.founder ≡ old.founder
  pub own : AddsNothing (caller_of old.last) (caller_of new.last)

-- the same of the table that a memory has; and where it has none, it has none
abbrev pub KeepsHome : Option Home → Option Home → Type 0
KeepsHome None None = Unit {0}
KeepsHome (Some old) (Some new) = StaysHome old new
KeepsHome old new = ⊥

-- what the memory was told stays
pub record KeepsTerms (old new : Memory) : Type 0 where
  pub engine : new.engine ≡ old.engine
  pub threads : new.threads ≡ old.threads

-- a memory has taken nothing back: it has the values that it had, and the table
pub record StaysOut (old new : Memory) : Type 0 where
  pub values : new.values.items ≡ old.values.items
  pub home : KeepsHome old.home new.home

-- the table stays, and the memory's own part
abbrev pub GivesAtHome : Option Home → Option Home → Type 0
GivesAtHome (Some old) (Some new) = (table_at new ≡ table_at old) × (new.last ≡ old.last)
GivesAtHome old new = ⊥

-- WHAT MAKING A MEMORY ANSWERS
pub record MakesMemory (threads : ℕ) (engine : Engine) (answer : Result Memory Code) : Type 0 where
  pub empty : IfOk answer (λ memory. (memory.values.items ≡ []) × (memory.home ≡ None))
  pub by : IfOk answer (λ memory. (memory.engine ≡ engine) × (memory.threads ≡ threads))
  pub range : OnOk answer ((1 ≤ threads) × (threads ≤ 63))
  pub refused : answer ≡ Err Range ↔ ((threads ≡ 0) ⊎ (63 < threads))
  pub fails : IfErr answer (λ why. why ≡ Range)

module _ (holds : AnyLaw → List Val → Type 0) where
  -- THE VALUES OF ALL CELLS WERE READ: an attempt of the caller has begun, before which it had committed nothing more, and has
  -- taken effect. So the caller has committed one transaction more, and in every run these are the values of the cells at its
  -- place in the order of all transactions, before it and after it.
  pub record ReadsAll (k : Caller AnyLaw) (values : List Val) : Type 0 where
    pub before : Caller AnyLaw
    pub nothing : AddsNothing k before
    pub began : Caller AnyLaw
    pub begins : Begins holds before began
    pub last : Caller AnyLaw
    pub keeps : Keeps began last
    pub after : Caller AnyLaw
    pub takes : TakesEffect holds last after
    pub settles : Settles holds (AreValues values) k after takes.number

  -- WHAT A MEMORY HAS WHEN IT HAS TAKEN ITS VALUES BACK: those that it had, where there was no table; and else those
  -- that its own part has read of all cells together
  abbrev pub TakesFrom : Option Home → (had values : List Val) → Type 0
  TakesFrom None had values = values ≡ had
  TakesFrom (Some home) had values = ReadsAll (caller_of home.last) values

  abbrev pub HasSettled : Memory → List Val → Type 0
  HasSettled m values = TakesFrom m.home m.values.items values

  -- a cell was made behind those that the memory had when it had taken its values back
  pub record Grows (old new : Memory) (value : Val) (cell : ℕ) : Type 0 where
    pub before : List Val
    pub settled : HasSettled old before
    pub number : cell ≡ length before
    pub last : new.values.items ≡ before ++ (value ∷ [])

  -- so many cells were made side by side behind them, from this one on
  pub record GrowsBy (old new : Memory) (value : Val) (count first : ℕ) : Type 0 where
    pub before : List Val
    pub settled : HasSettled old before
    pub number : first ≡ length before
    pub last : new.values.items ≡ before ++ replicate count value

  -- a part is one of a new table, which was made of the values that the memory had when it had taken its values back
  pub record GivesNew (old : Memory) (part : Thread) : Type 0 where
    pub values : List Val
    pub settled : HasSettled old values
    pub starts : StartsWith values (home_of (caller_of part))

  -- A PART IS ONE OF THE TABLE THAT WAS THERE, or of a new one
  abbrev pub GivesPart : Memory → Thread → Type 0
  GivesPart old part = IsAt old.home (home_of (caller_of part)) ⊎ GivesNew old part

  -- a memory has taken its values back, and has no table
  pub record IsSettled (old new : Memory) : Type 0 where
    pub settled : HasSettled old new.values.items
    pub home : new.home ≡ None

  -- WHAT A CALL LEAVES THAT HAS FAILED: nothing is lost. The memory has taken nothing back, or all its values.
  abbrev pub KeepsCells : Memory → Memory → Type 0
  KeepsCells old new = StaysOut old new ⊎ IsSettled old new

  -- the part is a new caller of the table, with this seed: its founder has just given it out
  abbrev pub EnrolsAtHome : Option Home → Option Home → (seed : ℕ) → Thread → Type 0
  EnrolsAtHome (Some old) (Some new) seed part = Enrols holds old.founder new.founder seed (caller_of part)
  EnrolsAtHome old new seed part = ⊥

  -- a part was given out of the table that a memory has, and goes on to have; it has the next seed
  pub record GivesMore (old new : Memory) (part : Thread) : Type 0 where
    pub values : new.values.items ≡ old.values.items
    pub home : GivesAtHome old.home new.home
    pub at : IsAt new.home (home_of (caller_of part))
    pub seeds : new.seeds ≡ (old.seeds + 1) % 2 ^ 64
    pub enrols : EnrolsAtHome old.home new.home new.seeds part

  -- the founder of a new table has given out the memory's own part, and then this one, and none beside them
  abbrev pub EnrolsFirst : Option Home → (seed : ℕ) → Thread → Type 0
  EnrolsFirst None seed part = ⊥
  EnrolsFirst (Some home) seed part =
      (f : Founder AnyLaw) × Enrols holds (founded (table_at home)) f 0 (caller_of home.last)
      × Enrols holds f home.founder seed (caller_of part)

  -- a part was given out of a new table, which works by the memory's engine and was made of the values that it has taken back; it
  -- has the next seed
  pub record GivesFirst (old new : Memory) (part : Thread) : Type 0 where
    pub settled : HasSettled old new.values.items
    pub starts : StartsWith new.values.items (home_of (caller_of part))
    pub works : WorksBy new.engine (home_of (caller_of part))
    pub at : IsAt new.home (home_of (caller_of part))
    pub seeds : new.seeds ≡ (old.seeds + 1) % 2 ^ 64
    pub enrols : EnrolsFirst new.home new.seeds part

  -- A PART WAS GIVEN OUT of the table that the memory has then: of the one that it had, or of a new one
  abbrev pub Gives : Memory → Memory → Thread → Type 0
  Gives old new part = GivesMore old new part ⊎ GivesFirst old new part

  -- WHAT MAKING A CELL ANSWERS, and what it leaves
  pub record MakesCell (value : Val) (old new : Memory) (answer : Result ℕ Code) : Type 0 where
    pub made : IfOk answer (Grows old new value)
    pub full : answer ≡ Err Full → length new.values.items ≡ 524288
    pub why : IfErr answer (λ why. IsWithheld why ⊎ (why ≡ Full))
    pub home : OnOk answer (new.home ≡ None)
    pub kept : IfErr answer (λ _. KeepsCells old new)
    pub terms : KeepsTerms old new

  -- WHAT MAKING CELLS ANSWERS, side by side, and what it leaves
  pub record MakesCells (value : Val) (count : ℕ) (old new : Memory) (answer : Result ℕ Code) : Type 0 where
    pub made : IfOk answer (GrowsBy old new value count)
    pub full : answer ≡ Err Full → 524288 < length new.values.items + count
    pub why : IfErr answer (λ why. IsWithheld why ⊎ (why ≡ Full))
    pub home : OnOk answer (new.home ≡ None)
    pub kept : IfErr answer (λ _. KeepsCells old new)
    pub terms : KeepsTerms old new

  -- WHAT LOOKING AT A CELL ANSWERS, while no thread has a part, and what it leaves
  pub record Peeks (cell : ℕ) (old new : Memory) (answer : Result Val Code) : Type 0 where
    pub settled : OnOk answer (HasSettled old new.values.items)
    pub exists : OnOk answer (cell < length new.values.items)
    pub value : IfOk answer (λ value. value ≡ value_at new.values.items cell)
    pub foreign : answer ≡ Err Foreign → length new.values.items ≤ cell
    pub why : IfErr answer (λ why. IsWithheld why ⊎ (why ≡ Foreign))
    pub home : OnOk answer (new.home ≡ None)
    pub kept : IfErr answer (λ _. KeepsCells old new)
    pub terms : KeepsTerms old new

  -- WHAT GIVING OUT A PART ANSWERS, and what it leaves
  pub record GivesOut (old new : Memory) (answer : Result Thread Code) : Type 0 where
    pub gives : IfOk answer (GivesPart old)
    pub leaves : IfOk answer (Gives old new)
    pub idle : IfOk answer (λ part. part.begun ≡ false)
    pub why : IfErr answer (λ why. (why ≡ Full) ⊎ (why ≡ Spent) ⊎ (why ≡ code.Memory))
    pub kept : IfErr answer (λ _. KeepsCells old new)
    pub terms : KeepsTerms old new
