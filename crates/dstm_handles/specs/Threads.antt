-- A thread's part in a memory: what each call on it answers, and what it leaves.
use Rattle.std.specs.Prelude.{◌≡◌, ◌≢◌, ◌⊎◌, ℕ, ◌<◌, ◌≤◌, ◌++◌, Bool, true, false, List, [], ◌∷◌, length, IfErr, IfOk, OnOk, Result, Err, Ok, if◌then◌else◌}
use denote.Ref.{MutBor}
use Rattle.std.specs.Fn.{FnOnceReturnsAtMut, Once}
use Rattle.dstm_model.specs.declared.value.AnyLaw.{AnyLaw}
use Rattle.dstm_model.specs.declared.value.Val.{Val}
use Rattle.dstm_tables.specs.Callers.{home_of}
use Rattle.dstm_tables.specs.declared.tables.Caller.{Caller}
use Rattle.dstm_attempts.specs.Attempts.{AddsNothing, Begins, Exchanges, Finds, IsAbandoned, IsLost, IsQuit, IsSpent, Keeps, MayBegin, Opens, SetsNothing, StoodTogether, TakesEffect, begun, clock, goes_on, is_under_way, objects_of, renewed}
use Rattle.dstm_cells.specs.Alternatives.{Notes, Undoes, noting}
use Rattle.dstm_cells.specs.Alternatives as cells_undo
use Rattle.dstm_cells.specs.UnderWay as cells
use Rattle.dstm_cells.specs.UnderWay.{stop_by}
use Rattle.dstm_cells.specs.declared.error.Stop.{Stop}
use Rattle.dstm_cells.specs.declared.error.Why.{Why}
use Rattle.dstm_cells.specs.declared.error.Why.TheVariants as why
use Rattle.dstm_cells.specs.declared.under_way.Undo.{Undo}
use Rattle.dstm_handles.specs.declared.code.Code.{Code}
use Rattle.dstm_handles.specs.declared.code.Code.TheVariants.{Again, Done, Foreign, Idle, Memory, Open, Range, Spent}
use Rattle.dstm_handles.specs.declared.thread.Thread.{Thread}

-- what makes its attempts
abbrev pub caller_of : Thread → Caller AnyLaw
caller_of t = t.tx.attempts.caller

-- whether it has a mark, and notes what it sets; and what it has noted
abbrev pub notes_of : Thread → Bool
notes_of t = t.tx.notes

abbrev pub noted_by : Thread → List Undo
noted_by t = t.tx.undos.items

-- why a call on the transaction has stopped, as a part says it
abbrev pub code_for : Why → Code
code_for why.Again = Again
code_for why.Retry = Again
code_for why.Foreign = Foreign
code_for why.Memory = Memory

-- its caller as an attempt begins: where no transaction is under way it is the first of a new one
abbrev pub starting : Thread → Caller AnyLaw
starting t = if t.begun then caller_of t else renewed (caller_of t)

-- a transaction is under way, and does not wait
pub record MayCall (t : Thread) : Type 0 where
  pub begun : t.begun ≡ true
  pub waits : t.waits ≡ false

-- WHERE A CALL ON A TRANSACTION DOES NOTHING, and answers why: none is under way, or it waits
pub record RefusesBy (t : Thread) (is : Code → Type 0) : Type 0 where
  pub idle : t.begun ≡ false → is Idle
  pub waits : t.begun ≡ true → t.waits ≡ true → is Again

abbrev pub RefusesAll : {T : Type 0} → Thread → Result T Code → Type 0
RefusesAll {T = T} t answer = RefusesBy t (λ code. answer ≡ Err code)

-- Where a call on a cell does nothing, and answers why: the same; or the transaction is lost; or there is no such cell.
pub record Refuses {T : Type 0} (t : Thread) (cell : ℕ) (answer : Result T Code) : Type 0 where
  pub all : RefusesAll t answer
  pub lost : MayCall t → is_under_way (caller_of t) ≡ false → answer ≡ Err Again
  pub foreign : MayCall t → goes_on (caller_of t) ≡ true → objects_of (caller_of t) ≤ cell → answer ≡ Err Foreign

-- the same transaction goes on: it neither begins nor ends, nor does it begin to wait
pub record GoesOn (old new : Thread) : Type 0 where
  pub keeps : Keeps (caller_of old) (caller_of new)
  pub begun : new.begun ≡ old.begun
  pub waits : new.waits ≡ old.waits
  pub since : new.since ≡ old.since
  pub notes : notes_of new ≡ notes_of old

-- A TRANSACTION IS UNDER WAY and not lost, so that none begins, and nothing was done
pub record IsOpen (old new : Thread) : Type 0 where
  pub may : MayCall old
  pub live : is_under_way (caller_of old) ≡ true
  pub same : new ≡ old

-- it has no mark, and nothing is noted
pub record HasNoMark (t : Thread) : Type 0 where
  pub notes : notes_of t ≡ false
  pub undos : noted_by t ≡ []

-- a call on a transaction did nothing, since none is under way, or it waits
pub record WasRefused (old new : Thread) : Type 0 where
  pub may_not : MayCall old → ⊥
  pub same : new ≡ old

-- what it sets from here on is noted, and nothing else of it is changed
pub record IsMarked (old new : Thread) : Type 0 where
  pub notes : notes_of new ≡ true
  pub attempts : new.tx.attempts ≡ old.tx.attempts
  pub table : new.tx.table ≡ old.tx.table
  pub undos : new.tx.undos ≡ old.tx.undos
  pub looks : new.tx.looks ≡ old.tx.looks
  pub begun : new.begun ≡ old.begun
  pub waits : new.waits ≡ old.waits
  pub since : new.since ≡ old.since

-- WHAT A MARK IS
pub record Marks (old new : Thread) (answer : Result ℕ Code) : Type 0 where
  pub marks : IfOk answer (λ mark. mark ≡ length (noted_by old))
  pub notes : OnOk answer (IsMarked old new)
  pub stops : IfErr answer (λ why. WasRefused old new)
  pub refuses : RefusesAll old answer
  pub fails : IfErr answer (λ why. why ≢ Done)

-- nothing of the transaction is changed, but for the turn
pub record IsSame (old new : Thread) : Type 0 where
  pub tx : new.tx ≡ old.tx
  pub begun : new.begun ≡ old.begun
  pub waits : new.waits ≡ old.waits
  pub since : new.since ≡ old.since

-- WHAT IS ANSWERED BEFORE AN ATTEMPT, as to whose turn it is: nothing else is done
pub record Enters (old new : Thread) (code : Code) : Type 0 where
  pub same : IsSame old new
  pub tells : (code ≡ Done) ⊎ (code ≡ Again)

-- a call on the transaction has stopped, for the cause that the code tells
pub record HasStopped (told : Why → Type 0) (code : Code) : Type 0 where
  pub why : Why
  pub is : code ≡ code_for why
  pub stops : told why

module _ {X F R : Type 0} (tx : Thread → X)
    (g : Once F (MutBor X × Unit {0}) (Result R Stop × (MutBor X × Unit {0}))) (f : F) where
  -- a closure was called on the transaction under way, and has answered this: nothing else was done
  pub record HasCalled (old new : Thread) (answer : Result R Stop) : Type 0 where
    pub may : MayCall old
    pub called : FnOnceReturnsAtMut g f (tx old) answer (tx new)
    pub begun : new.begun ≡ old.begun
    pub waits : new.waits ≡ old.waits
    pub since : new.since ≡ old.since

  -- WHAT A CALL OF A CLOSURE on the transaction ANSWERS, and what it leaves
  pub record CallsOnce (old new : Thread) (answer : Result R Code) : Type 0 where
    pub refuses : RefusesAll old answer
    pub answers : IfOk answer (λ told. HasCalled old new (Ok told))
    pub stops : IfErr answer (λ code. WasRefused old new ⊎ HasStopped (λ why. HasCalled old new (Err (stop_by why))) code)
    pub fails : IfErr answer (λ why. why ≢ Done)

module _ (holds : AnyLaw → List Val → Type 0) where
  -- WHY A CALL THAT LOOKS AT A CELL STOPS, and what it leaves
  abbrev pub StopsLook : ℕ → Thread → Thread → Code → Type 0
  StopsLook cell old new code =
      WasRefused old new ⊎ HasStopped (cells.StopsLook holds cell (caller_of old) (caller_of new)) code

  -- WHY A CALL THAT SETS A CELL STOPS, and what it leaves
  abbrev pub StopsChange : ℕ → Thread → Thread → Code → Type 0
  StopsChange cell old new code =
      WasRefused old new
      ⊎ HasStopped (cells.StopsChange holds (notes_of old) cell (caller_of old) (caller_of new)) code

  -- a commit did not take effect, for a cause of the engine
  pub record WasLost (old new : Thread) (code : Code) : Type 0 where
    pub is : code ≡ Again
    pub may : MayCall old
    pub lost : IsLost holds (caller_of old) (caller_of new)

  -- WHY NOTHING WAS COMMITTED
  abbrev pub StopsCommit : Thread → Thread → Code → Type 0
  StopsCommit old new code = WasRefused old new ⊎ WasLost old new code

  -- there is no such mark
  pub record HasNoSuchMark (mark : ℕ) (old new : Thread) (code : Code) : Type 0 where
    pub is : code ≡ Range
    pub behind : length (noted_by old) < mark
    pub same : new ≡ old

  -- WHY UNDOING STOPS
  abbrev pub StopsUndoing : ℕ → Thread → Thread → Code → Type 0
  StopsUndoing mark old new code =
      WasRefused old new
      ⊎ (HasNoSuchMark mark old new code
      ⊎ HasStopped (λ why. cells_undo.StopsUndoing holds (noted_by old) (caller_of old) (caller_of new) (stop_by why)) code)

  -- an attempt of this caller has begun, and nothing is noted
  pub record HasBegun (k : Caller AnyLaw) (new : Thread) : Type 0 where
    pub begins : Begins holds k (caller_of new)
    pub may : MayCall new
    pub since : new.since ≡ clock (caller_of new)
    pub unnoted : HasNoMark new

  -- no attempt has begun, since none was left, or no locator; and no transaction is under way
  pub record HasNoneLeft (k : Caller AnyLaw) (new : Thread) : Type 0 where
    pub spent : IsSpent (caller_of new)
    pub over : new.begun ≡ false
    pub none : begun (caller_of new) ≡ begun k
    pub quit : IsQuit (caller_of new)

  -- WHAT A BEGINNING ANSWERS, and what it leaves
  pub record BeginsOr (old new : Thread) (code : Code) : Type 0 where
    pub tells : (code ≡ Done) ⊎ (code ≡ Spent) ⊎ (code ≡ Open)
    pub begins : code ≡ Done → HasBegun (starting old) new
    pub spent : code ≡ Spent → HasNoneLeft (starting old) new
    pub live : code ≡ Open → IsOpen old new
    pub under_way : MayCall old → goes_on (caller_of old) ≡ true → code ≡ Open
    pub nothing : AddsNothing (caller_of old) (caller_of new)

  -- WHAT IS ANSWERED WHERE A TRANSACTION IS GIVEN UP, and what that leaves
  pub record GivesUp (old new : Thread) (code : Code) : Type 0 where
    pub over : new.begun ≡ false
    pub idle : old.begun ≡ false → (code ≡ Idle) × (new ≡ old)
    pub done : old.begun ≡ true → code ≡ Done
    pub leaves : old.begun ≡ true → IsAbandoned holds (caller_of old) (caller_of new)
    pub nothing : AddsNothing (caller_of old) (caller_of new)

  -- WHAT READING A CELL ANSWERS, and what it leaves
  pub record Gets (cell : ℕ) (old new : Thread) (answer : Result Val Code) : Type 0 where
    pub goes_on : GoesOn old new
    pub undos : noted_by new ≡ noted_by old
    pub refuses : Refuses old cell answer
    pub finds : IfOk answer (Finds holds (caller_of old) (caller_of new) cell)
    pub may : OnOk answer ((map : List Val) × MayBegin holds (caller_of new) map)
    pub once : OnOk answer (Opens holds false cell (caller_of old) (caller_of new))
    pub together : OnOk answer (StoodTogether holds (caller_of new))
    pub stops : IfErr answer (StopsLook cell old new)
    pub unset : IfErr answer (λ _. SetsNothing holds (caller_of old) (caller_of new))
    pub fails : IfErr answer (λ why. why ≢ Done)

  -- WHAT SETTING A CELL ANSWERS, and what it leaves
  pub record Sets (cell : ℕ) (value : Val) (old new : Thread) (answer : Result Val Code) : Type 0 where
    pub goes_on : GoesOn old new
    pub noted : Notes holds (noting old.tx) (noting new.tx)
    pub refuses : Refuses old cell answer
    pub puts : IfOk answer (λ had. Exchanges holds (caller_of old) (caller_of new) cell had value)
    pub may : OnOk answer ((map : List Val) × MayBegin holds (caller_of new) map)
    pub once : OnOk answer (Opens holds true cell (caller_of old) (caller_of new))
    pub together : OnOk answer (StoodTogether holds (caller_of new))
    pub notes : IfOk answer (λ had. notes_of old ≡ true →
        noted_by new ≡ noted_by old ++ (record { object = cell; value = had } ∷ []))
    pub unnoted : notes_of old ≡ false → noted_by new ≡ noted_by old
    pub undos : IfErr answer (λ _. noted_by new ≡ noted_by old)
    pub stops : IfErr answer (StopsChange cell old new)
    pub unset : IfErr answer (λ _. SetsNothing holds (caller_of old) (caller_of new))
    pub fails : IfErr answer (λ why. why ≢ Done)

  -- WHAT A COMMIT ANSWERS, and what it leaves
  pub record Commits (old new : Thread) (code : Code) : Type 0 where
    pub takes : code ≡ Done → TakesEffect holds (caller_of old) (caller_of new)
    pub over : code ≡ Done → new.begun ≡ false
    pub home : home_of (caller_of new) ≡ home_of (caller_of old)
    pub nothing : code ≢ Done → AddsNothing (caller_of old) (caller_of new)
    pub goes_on : code ≢ Done → GoesOn old new
    pub stops : code ≢ Done → StopsCommit old new code
    pub refuses : RefusesBy old (λ why. code ≡ why)

  -- WHAT UNDOING ANSWERS, and what it leaves
  pub record UndoesTo (mark : ℕ) (old new : Thread) (code : Code) : Type 0 where
    pub goes_on : GoesOn old new
    pub undone : code ≡ Done → (first added : List Undo) → noted_by old ≡ first ++ added → length first ≡ mark →
        Undoes holds first added [] (noting old.tx) (noting new.tx)
    pub left : (first added : List Undo) → noted_by old ≡ first ++ added → length first ≡ mark →
        (left : List Undo) × Undoes holds first added left (noting old.tx) (noting new.tx)
    pub stops : code ≢ Done → StopsUndoing mark old new code
    pub range : MayCall old → length (noted_by old) < mark → code ≡ Range
    pub refuses : RefusesBy old (λ why. code ≡ why)
