-- What calls on structures of cells do as parts of the transaction of a thread's part, and what stands then where pointers lead.
use Rattle.std.specs.Prelude.{◌≡◌, ◌≢◌, ◌⊎◌, ℕ, ◌+◌, ◌*◌, ◌<◌, Bool, false, true, Err, IfErr, IfOk, List, length, None, OnOk, Option, Result, Some}
use Rattle.dstm_model.specs.declared.value.AnyLaw.{AnyLaw}
use Rattle.dstm_model.specs.declared.value.Val.{Val}
use Rattle.dstm_tables.specs.declared.tables.Caller.{Caller}
use Rattle.dstm_attempts.specs.Attempts.{MayBegin, StoodTogether}
use Rattle.dstm_cells.specs.Alternatives.{Notes, noting}
use Rattle.dstm_model.specs.declared.value.Law.{Ghosts}
use Rattle.dstm_cells.specs.declared.cell.Cell.{Cell}
use Rattle.dstm_cells.specs.declared.error.Stop.{Stop}
use Rattle.dstm_cells.specs.declared.holds.Holds.{Ghosts as Holding}
use Rattle.dstm_cells.specs.declared.under_way.Attempt.{Attempt as Tx}
use Rattle.dstm_structures.specs.Effects as Effects
use Rattle.dstm_structures.specs.Effects.{Does, Stops}
use Rattle.dstm_structures.specs.declared.map.Placed.{Placed}
use Rattle.dstm_structures.specs.declared.map.Placed.TheVariants as placed
use Rattle.dstm_structures.specs.declared.set.Inserted.{Inserted}
use Rattle.dstm_structures.specs.declared.set.Inserted.TheVariants as inserted
use Rattle.dstm_handles.specs.Held.{OfMemory, OfPart}
use Rattle.dstm_handles.specs.Memories.{HasSettled, IsWithheld, KeepsCells, KeepsTerms}
use Rattle.dstm_handles.specs.Threads.{GoesOn, HasStopped, RefusesAll, WasRefused, caller_of, notes_of}
use Rattle.dstm_handles.specs.declared.code.Code.{Code}
use Rattle.dstm_handles.specs.declared.code.Code.TheVariants as code
use Rattle.dstm_handles.specs.declared.held.Held.{Held}
use Rattle.dstm_handles.specs.declared.memory.Memory.{Memory}
use Rattle.dstm_handles.specs.declared.thread.Thread.{Thread}
use Rattle.dstm_c.specs.Codes.{code_of, number_of}

-- two words, as the value of a structure
abbrev pub Pair : Type 0
Pair = ℕ × ℕ

abbrev pub pair_of : Val → Pair
pair_of = λ val. (val.low, val.high)

-- ---- what stands where pointers lead, where a call has answered this, by what stood there

-- whether it is so: 1 or 0
abbrev pub put_if : Bool → ℕ → ℕ
put_if true old = 1
put_if false old = 0

-- how many there are
abbrev pub put_count : ℕ → ℕ → ℕ
put_count count old = count

-- whether there is one, and what it is; where there is none, this stays
abbrev pub put_found : {T : Type 0} → Option T → ℕ × T → ℕ × T
put_found None old = (0, old.1)
put_found (Some value) old = (1, value)

-- the same by the number of a cell
abbrev pub put_cell : Option (Cell Pair) → ℕ × ℕ → ℕ × ℕ
put_cell None old = (0, old.1)
put_cell (Some cell) old = (1, cell.object)

-- how a key was put, and the value that it had; where it had none, this stays
abbrev pub put_placed : Placed Pair → ℕ × Pair → ℕ × Pair
put_placed placed.New old = (0, old.1)
put_placed (placed.Instead had) old = (1, had)
put_placed placed.Full old = (2, old.1)

-- how a key was inserted
abbrev pub put_inserted : Inserted → ℕ → ℕ
put_inserted inserted.New old = 0
put_inserted inserted.There old = 1
put_inserted inserted.Full old = 2

module _ {T P : Type 0} (put_by : T → P → P) where
  -- a call has answered this: its code has this number, and where it has answered none, what stood there stays
  pub record Puts (answer : Result T Code) (old new : P) (number : ℕ) : Type 0 where
    pub is : number ≡ number_of (code_of answer)
    pub put : IfOk answer (λ value. new ≡ put_by value old)
    pub still : IfErr answer (λ _. new ≡ old)

  -- this number, and what stands where pointers lead, tell this of the answer
  pub record TellsBy (number : ℕ) (old new : P) (told : Result T Code → Type 0) : Type 0 where
    pub answer : Result T Code
    pub puts : Puts answer old new number
    pub tells : told answer

-- ---- what is done

module _ {S T : Type 0} {ghosts : Ghosts AnyLaw} {holding : Holding S AnyLaw} (holds : AnyLaw → List Val → Type 0)
    (objects : ℕ) (effect : T → List Val → List Val → Type 0) (notes : Bool) where
  -- what a call on a structure within so many cells says of the transaction on which it was made
  pub record Ensures (old new : Tx AnyLaw S ghosts holding) (answer : Result T Stop) : Type 0 where
    pub goes : Effects.GoesOn holds old new
    pub stops : IfErr answer (λ stop. Stops objects notes old new stop.why)
    pub does : IfOk answer (λ told. Does holds objects (effect told) old.attempts.caller new.attempts.caller)
    pub together : OnOk answer (StoodTogether holds new.attempts.caller)
    pub may : OnOk answer ((map : List Val) × MayBegin holds new.attempts.caller map)

module _ {T : Type 0} (holds : AnyLaw → List Val → Type 0) (objects : ℕ) (effect : T → List Val → List Val → Type 0) where
  -- WHAT A CALL ON A STRUCTURE within so many cells ANSWERS, as a part of the transaction under way, and what it leaves
  pub record CallsWithin (notes : Bool) (old new : Thread) (answer : Result T Code) : Type 0 where
    pub goes_on : GoesOn old new
    pub noted : Notes holds (noting old.tx) (noting new.tx)
    pub refuses : RefusesAll old answer
    pub does : IfOk answer (λ told. Does holds objects (effect told) (caller_of old) (caller_of new))
    pub together : OnOk answer (StoodTogether holds (caller_of new))
    pub may : OnOk answer ((map : List Val) × MayBegin holds (caller_of new) map)
    pub stops : IfErr answer (λ why. WasRefused old new ⊎ HasStopped (Stops objects notes old.tx new.tx) why)
    pub fails : IfErr answer (λ why. why ≢ code.Done)

  -- the same of a call that sets nothing, and of one that sets cells
  abbrev pub LooksWithin : Thread → Thread → Result T Code → Type 0
  LooksWithin = CallsWithin false

  abbrev pub SetsWithin : Thread → Thread → Result T Code → Type 0
  SetsWithin old = CallsWithin (notes_of old) old

-- this was done, and these cells were opened
abbrev pub AndOpens : {T : Type 0} → (goes : Thread → Thread → Result T Code → Type 0) →
    (opens : T → Caller AnyLaw → Caller AnyLaw → Type 0) → Thread → Thread → Result T Code → Type 0
AndOpens goes opens old new answer = goes old new answer × IfOk answer (λ told. opens told (caller_of old) (caller_of new))

-- no structure has these numbers, and nothing was done
pub record HasNone {T : Type 0} (outside : Type 0) (old new : Option Held) (answer : Result T Code) : Type 0 where
  pub none : outside
  pub is : answer ≡ Err code.Range
  pub same : new ≡ old

-- the structure that has these numbers, on which this was done by a part
pub record IsCalled {S T : Type 0} (is : S → Type 0) (goes : S → Thread → Thread → Result T Code → Type 0)
    (old new : Option Held) (answer : Result T Code) : Type 0 where
  pub structure : S
  pub named : is structure
  pub called : OfPart (λ t n. goes structure t n answer) (answer ≡ Err code.Closed) old new

-- WHAT A CALL ON THE STRUCTURE of some numbers DOES, where one has them
abbrev pub CallsNamed : {S T : Type 0} → (none : Type 0) → (is : S → Type 0) →
    (goes : S → Thread → Thread → Result T Code → Type 0) → Option Held → Option Held → Result T Code → Type 0
CallsNamed none is goes old new answer = HasNone none old new answer ⊎ IsCalled is goes old new answer

-- ---- what is made

module _ (holds : AnyLaw → List Val → Type 0) where
  -- a structure was made whose cells are behind those that the memory had when it had taken its values back
  pub record Makes (adds : ℕ → List Val → List Val → Type 0) (old new : Memory) (first : ℕ) : Type 0 where
    pub before : List Val
    pub settled : HasSettled holds old before
    pub added : adds first before new.values.items

  -- WHAT MAKING A STRUCTURE of so many cells ANSWERS, and what it leaves
  pub record MakesWithin (cells : ℕ) (adds : ℕ → List Val → List Val → Type 0) (old new : Memory) (answer : Result ℕ Code)
      : Type 0 where
    pub made : IfOk answer (Makes adds old new)
    pub full : answer ≡ Err code.Full → 524288 < length new.values.items + cells
    pub why : IfErr answer (λ why. IsWithheld why ⊎ (why ≡ code.Full))
    pub home : OnOk answer (new.home ≡ None)
    pub kept : IfErr answer (λ _. KeepsCells holds old new)
    pub terms : KeepsTerms old new

  -- the same by a handle, where there can be such a structure
  abbrev pub MakesNamed : (none : Type 0) → (cells : ℕ) → (adds : ℕ → List Val → List Val → Type 0) →
      Option Held → Option Held → Result ℕ Code → Type 0
  MakesNamed none cells adds old new answer =
      HasNone none old new answer
      ⊎ OfMemory (λ m n. MakesWithin cells adds m n answer) (answer ≡ Err code.Closed) old new
