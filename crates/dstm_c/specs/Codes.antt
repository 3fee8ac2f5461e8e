-- The codes and the engines as C has them, and what it opens.
use Rattle.std.specs.Prelude.{◌≡◌, ◌⊎◌, ℕ, ◌<◌, Err, IfErr, IfOk, List, [], None, Ok, Option, Result, Some}
use Rattle.std.specs.Global.{Box}
use Rattle.dstm_core.specs.declared.shape.Manager.TheVariants as manager
use Rattle.dstm_model.specs.declared.value.AnyLaw.{AnyLaw}
use Rattle.dstm_model.specs.declared.value.Val.{Val}
use Rattle.dstm_tables.specs.declared.engine.Engine.{Engine}
use Rattle.dstm_tables.specs.declared.engine.Engine.TheVariants as engine
use Rattle.dstm_handles.specs.declared.code.Code.{Code}
use Rattle.dstm_handles.specs.declared.code.Code.TheVariants as code
use Rattle.dstm_handles.specs.Held.{OfMemory}
use Rattle.dstm_handles.specs.Memories.{GivesOut}
use Rattle.dstm_handles.specs.Threads.{GivesUp}
use Rattle.dstm_handles.specs.declared.held.Held.{Held}
use Rattle.dstm_handles.specs.declared.held.Held.TheVariants as held
use Rattle.dstm_handles.specs.declared.memory.Memory.{Memory}
use Rattle.dstm_handles.specs.declared.thread.Thread.{Thread}

-- the number of a code
abbrev pub number_of : Code → ℕ
number_of code.Done = 0
number_of code.Again = 1
number_of code.Spent = 2
number_of code.Foreign = 3
number_of code.Idle = 4
number_of code.Open = 5
number_of code.Closed = 6
number_of code.Taken = 7
number_of code.Busy = 8
number_of code.Full = 9
number_of code.Memory = 10
number_of code.Range = 11

-- the code of this number tells this
pub record Tells (number : ℕ) (told : Code → Type 0) : Type 0 where
  pub code : Code
  pub is : number ≡ number_of code
  pub tells : told code

-- how a call ended that has answered this
abbrev pub code_of : {T : Type 0} → Result T Code → Code
code_of (Ok value) = code.Done
code_of (Err why) = why

-- the answer of this number tells this
pub record TellsAnswer {T : Type 0} (number : ℕ) (told : Result T Code → Type 0) : Type 0 where
  pub answer : Result T Code
  pub is : number ≡ number_of (code_of answer)
  pub tells : told answer

-- the same, and what it has answered stands where a pointer leads; where it has answered none, nothing was put there
pub record TellsValue {T : Type 0} (number : ℕ) (old new : T) (told : Result T Code → Type 0) : Type 0 where
  pub answer : Result T Code
  pub is : number ≡ number_of (code_of answer)
  pub put : IfOk answer (λ value. new ≡ value)
  pub still : IfErr answer (λ _. new ≡ old)
  pub tells : told answer

-- the number of an engine
abbrev pub engine_number : Engine → ℕ
engine_number engine.Tl2 = 0
engine_number (engine.Dstm manager.Polka) = 1
engine_number (engine.Dstm manager.Karma) = 2
engine_number (engine.Dstm manager.Polite) = 3
engine_number (engine.Dstm manager.Greedy) = 4

-- a handle is of a new memory, which has no cell, and was told this
pub record OpensMemory (threads engine : ℕ) (is : Option Held) : Type 0 where
  pub memory : Memory
  pub held : is ≡ Some (held.Memory memory)
  pub empty : (memory.values.items ≡ []) × (memory.home ≡ None)
  pub threads_are : memory.threads ≡ threads
  pub engine_is : engine_number memory.engine ≡ engine

-- no memory is for so many threads, or works by such an engine
abbrev pub IsOutOfRange : (threads engine : ℕ) → Type 0
IsOutOfRange threads engine = (threads ≡ 0) ⊎ (63 < threads) ⊎ (4 < engine)

-- WHAT CLOSING A MEMORY TELLS: it is closed; what is no memory stays
abbrev pub FreesMemory : Option Held → Option Held → (number : ℕ) → Type 0
FreesMemory (Some (held.Memory memory)) new number = (number ≡ 0) × (new ≡ None)
FreesMemory old new number = (number ≡ 6) × (new ≡ old)

-- this answer has a part in a box
abbrev pub IsBoxed : Result Thread Code → Result (Box Held) Code → Type 0
IsBoxed (Ok part) (Ok box) = box.value ≡ held.Thread part
IsBoxed (Err why) (Err code) = code ≡ why
IsBoxed answer boxed = ⊥

module _ (holds : AnyLaw → List Val → Type 0) where
  -- WHAT GIVING A PART BACK TELLS: its transaction was given up, and it is closed; what is no part stays
  abbrev pub FreesPart : Option Held → Option Held → (number : ℕ) → Type 0
  FreesPart (Some (held.Thread part)) new number =
      (number ≡ 0) × (new ≡ None) × ((last : Thread) × (code : Code) × GivesUp holds part last code)
  FreesPart old new number = (number ≡ 6) × (new ≡ old)

  -- WHAT OPENING A PART TELLS, by a handle that was closed
  pub record OpensPart (old new is : Option Held) (number : ℕ) : Type 0 where
    pub answer : Result Thread Code
    pub told : number ≡ number_of (code_of answer)
    pub held : IfOk answer (λ part. is ≡ Some (held.Thread part))
    pub closed : IfErr answer (λ _. is ≡ None)
    pub gives : OfMemory (λ m n. GivesOut holds m n answer) (answer ≡ Err code.Closed) old new
