-- How the fields of a caller stand for what contracts see of it.
use Rattle.std.specs.Prelude.{◌≡◌, ◌≢◌, ℕ, ◌+◌, ◌<◌, ◌≤◌, Bool, true, false, List, [], ◌∷◌, length, map, Option, None, Some, IfSome}
use Rattle.dstm_model.specs.declared.value.Val.{Val}
use Rattle.dstm_core.specs.Histories.{old_values, read_values}
use Rattle.dstm_core.specs.Runs.{local}
use Rattle.dstm_core.specs.State.{LocalState, record_resolved}
use Rattle.dstm_core.specs.declared.state.Phase.{Phase}
use Rattle.dstm_core.specs.declared.state.Phase.TheVariants.{Outside, Running}
use Rattle.dstm_core.specs.declared.shape.Manager.TheVariants.{Greedy}
use Rattle.dstm_steps.specs.Reads.{words_of}
use Rattle.dstm_steps.specs.Under.{IsMirror}
use Rattle.dstm_steps.specs.Writes.{AreWrites}
use Rattle.dstm_steps.specs.declared.slots.ReadSlot.{ReadSlot}
use Rattle.dstm_steps.specs.declared.slots.WriteSlot.{WriteSlot}
use Rattle.dstm_steps.specs.declared.steps.Steps.{Steps}
use Rattle.dstm_words.specs.Seats.{IsRunOf, caller_view}
use Rattle.dstm_words.specs.declared.terms.Terms.{Terms}
use Rattle.dstm_engine.specs.declared.caller.Caller.TheInside.{Inside}
use Rattle.dstm_engine.specs.Callers.{Called, shape_of, start_of, state, entry}
use Rattle.dstm_engine.specs.Attempts.{Sighted}
use Rattle.dstm_engine.specs.Calls.{IsMade, IsTold}
use Rattle.dstm_engine.specs.Outcomes.{IsLeft, Promises}

-- a value that was set, before others
abbrev pub with_new : ℕ → Option Val → List (ℕ × Val) → List (ℕ × Val)
with_new object None pairs = pairs
with_new object (Some value) pairs = (object, value) ∷ pairs

-- the values that were set, of the objects open for writing
abbrev pub set_pairs : List WriteSlot → List (ℕ × Val)
set_pairs [] = []
set_pairs (slot ∷ slots) = with_new slot.object slot.new (set_pairs slots)

-- the word and the value of a read, and the old value of an object open for writing, each with its object
abbrev pub slot_word : ReadSlot → ℕ × ℕ
slot_word slot = (slot.object, slot.word)

abbrev pub slot_value : ReadSlot → ℕ × Val
slot_value slot = (slot.object, slot.value)

abbrev pub slot_old : WriteSlot → ℕ × Val
slot_old slot = (slot.object, slot.old)

-- the phase between two calls
abbrev pub phase_by : Bool → Phase
phase_by true = Running
phase_by false = Outside

-- an attempt between two calls: nothing is under way
pub record AtRest (state : LocalState) : Type 0 where
  pub agreed : state.stale ≡ false
  pub no_pass : state.pass ≡ None
  pub not_put : (state.written ≡ 0) × (state.high_put ≡ false)
  pub recorded : record_resolved state.resolution state.reads ≡ state.reads

module _ {L : Type 0} where
  abbrev pub called : Inside L → Called L
  called c = record {
    home = record { table = c.steps.seat.table_id; terms = c.terms };
    log = c.steps.seat.me.0.log;
    number = c.number;
    generator = c.steps.decider.generator;
    began = c.began.value.generator;
    fresh = c.fresh;
    set = set_pairs c.opened.writes;
    left = c.left;
  }

  -- the steps of a caller of this number are those of its seat, and know what the machine says of it
  pub record Placed (holds : L → List Val → Type 0) (terms : Terms L) (steps : Steps L) (c : ℕ) : Type 0 where
    pub seat : (steps.seat.me.0 ≡ caller_view terms c steps.seat.me.0.log) × (steps.seat.me.1 ≡ [])
    pub run : IsRunOf holds terms steps.seat.me.0.log
    pub number : (c < terms.shape.callers) × ((local terms.shape steps.seat.me.0.log c).number ≡ Some c)
    pub shape : steps.shape ≡ terms.shape
    pub mirror : IsMirror terms.shape steps (local terms.shape steps.seat.me.0.log c)

  pub record Tied (holds : L → List Val → Type 0) (c : Inside L) : Type 0 where
    pub placed : Placed holds c.terms c.steps c.number
    pub open placed use *
    pub begun : (state (called c)).begun ≡ c.begun
    pub phase : (state (called c)).phase ≡ phase_by c.live
    pub manager : (c.steps.decider.manager ≡ c.terms.shape.manager) × (c.began.value.manager ≡ c.terms.shape.manager)
    pub fresh : c.fresh ≡ false → ((state (called c)).committed ≡ false)
        × (c.terms.shape.manager ≡ Greedy → (state (called c)).stands ≡ true)
    pub unused : ((state (called c)).stamped ≡ false) × ((state (called c)).ranked ≡ false)
    pub last_number : c.live ≡ true → (state (called c)).last_pass ≡ c.last_number
    pub rest : c.live ≡ true → AtRest (state (called c))
    pub left : c.live ≡ true → c.left ≡ None
    pub ended : IfSome c.left (λ again. IsLeft (called c) again × Promises (called c) again)
    pub uncommitted : c.live ≡ true → (state (called c)).committed ≡ false
    pub told : IsMade (called c) → IsTold (called c)
    pub sighted : c.live ≡ true → (entry (called c)).reads ≢ [] → Sighted (called c)
    pub reads : c.live ≡ true → words_of (state (called c)).reads ≡ map slot_word c.opened.reads
    pub values : c.live ≡ true →
        read_values (shape_of (called c)) (start_of (called c)) (called c).log (state (called c)).reads
        ≡ map slot_value c.opened.reads
    pub writes : c.live ≡ true → AreWrites c.opened.writes (state (called c)).writes
    pub olds : c.live ≡ true →
        old_values (shape_of (called c)) (start_of (called c)) (called c).log (state (called c)).writes
        ≡ map slot_old c.opened.writes
    pub objects : c.opened.objects ≡ c.terms.shape.objects
    pub locators : c.live ≡ true → (state (called c)).installed + c.terms.shape.objects
        ≤ c.terms.shape.locators + length (state (called c)).writes
