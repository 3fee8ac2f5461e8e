-- What a call on a transaction under way leaves. The words of its attempts are those of each engine.
use Rattle.std.specs.Prelude.{◌≡◌, ℕ, ◌≤◌, Bool, true, false, List, Result, Err, Ok}
use Rattle.dstm_model.specs.declared.value.Val.{Val}
use Rattle.dstm_tables.specs.declared.tables.Caller.{Caller}
use Rattle.dstm_attempts.specs.declared.error.NotOpened.{NotOpened}
use Rattle.dstm_attempts.specs.declared.error.NotOpened.TheVariants as not_opened
use Rattle.dstm_attempts.specs.Attempts.{IsNotOpened, goes_on, is_under_way, objects_of}
use Rattle.dstm_cells.specs.declared.error.Why.{Why}
use Rattle.dstm_cells.specs.declared.error.Why.TheVariants.{Again, Retry, Foreign, Memory}
use Rattle.dstm_cells.specs.declared.error.Stop.{Stop}
pub use Rattle.dstm_attempts.specs.Attempts.{AddsNothing, Exchanges, Finds, IsUntouched, Keeps, LeavesLawful, MayBegin, Opens, Puts, SetsNothing, TakesEffect, attempt, seen}

-- a stop for this reason
abbrev pub stop_by : Why → Stop
stop_by why = record { why = why }

-- what a closure has answered, where it is told why it has stopped
abbrev pub answer_by : {R : Type 0} → Result R Why → Result R Stop
answer_by (Ok answer) = Ok answer
answer_by (Err why) = Err (stop_by why)

-- how a closure hands out why an object was not opened: an attempt that is over is made again
abbrev pub stop_for : NotOpened → Stop
stop_for not_opened.Over = stop_by Again
stop_for not_opened.Foreign = stop_by Foreign

module _ {L : Type 0} where
  -- Where a call on an object does nothing, and answers why: no call on the attempt is made, or there is no such object.
  pub record Refuses {T : Type 0} (k : Caller L) (o : ℕ) (answer : Result T Stop) : Type 0 where
    pub over : is_under_way k ≡ false → answer ≡ Err (stop_by Again)
    pub foreign : goes_on k ≡ true → objects_of k ≤ o → answer ≡ Err (stop_by Foreign)

  -- The same, where the answer is the cause itself.
  pub record RefusesFor {T : Type 0} (k : Caller L) (o : ℕ) (answer : Result T Why) : Type 0 where
    pub over : is_under_way k ≡ false → answer ≡ Err Again
    pub foreign : goes_on k ≡ true → objects_of k ≤ o → answer ≡ Err Foreign

  module _ (holds : L → List Val → Type 0) where
    -- WHY A CALL THAT LOOKS AT AN OBJECT STOPS, and what it leaves: it never retries, and notes nothing
    abbrev pub StopsLook : ℕ → Caller L → Caller L → Why → Type 0
    StopsLook o old new Again = IsNotOpened holds false o old new not_opened.Over
    StopsLook o old new Retry = ⊥
    StopsLook o old new Foreign = IsNotOpened holds false o old new not_opened.Foreign
    StopsLook o old new Memory = ⊥

    -- WHY A CALL THAT SETS AN OBJECT STOPS, and what it leaves: it never retries, and wants memory only where it is to note
    -- what it sets; then the object is open, and nothing else was done
    abbrev pub StopsChange : (notes : Bool) → ℕ → Caller L → Caller L → Why → Type 0
    StopsChange notes o old new Again = IsNotOpened holds true o old new not_opened.Over
    StopsChange notes o old new Retry = ⊥
    StopsChange notes o old new Foreign = IsNotOpened holds true o old new not_opened.Foreign
    StopsChange notes o old new Memory = (notes ≡ true) × Opens holds true o old new × SetsNothing holds old new

    -- a cell was found to hold this, by what two words stand for, and nothing was set
    pub record Gets {T : Type 0} (found : Val → T) (old new : Caller L) (cell : ℕ) (value : T) : Type 0 where
      pub kept : Val
      pub is : value ≡ found kept
      pub finds : Finds holds old new cell kept

    -- a cell was found to hold the first value, and set to the second one
    pub record Changes {T : Type 0} (found : Val → T) (old new : Caller L) (cell : ℕ) (had value : T) : Type 0 where
      pub before : Val
      pub was : had ≡ found before
      pub after : Val
      pub is : found after ≡ value
      pub exchanges : Exchanges holds old new cell before after
