-- Machines, and their runs: traces of several callers that each follow the machine's local rules.
use Rattle.std.specs.Prelude.{◌≡◌, ℕ, ◌<◌, ◌==◌, List, [], ◌∷◌, if◌then◌else◌}
use Rattle.dstm_machines.specs.declared.event.Event.{Event}
use Rattle.dstm_machines.specs.Traces.{Each, at}

-- what events of kind K mean on a table T to callers whose state is S
pub record Machine (K T S : Type 0) : Type 1 where
  pub initial : T → ℕ → ℕ  -- what the word at a place holds at first
  pub callers : T → ℕ  -- how many callers a table has
  pub first : S  -- a caller's state before any event
  pub Enrols : K → Type 0  -- by such an event a caller gets its number, which is the word found
  pub Allows : T → S → Event K → Type 0  -- the local rules let a caller in this state make the event
  pub after : T → S → Event K → S  -- its state after it

module _ {K T S : Type 0} (machine : Machine K T S) (table : T) where
  -- a caller's state after its own events of a trace
  abbrev pub local : List (Event K) → ℕ → S
  local [] c = machine.first
  local (event ∷ before) c =
      if event.caller == c then machine.after table (local before c) event else local before c

  -- its state after some events of its own, from the state before them
  abbrev pub state_after : S → List (Event K) → S
  state_after state [] = state
  state_after state (event ∷ events) = machine.after table (state_after state events) event

  -- what a word holds
  abbrev pub held : List (Event K) → ℕ → ℕ
  held trace p = at (machine.initial table) trace p

  -- the event may come next: it finds what its word holds, and the rules allow it to its caller, which is one of
  -- the table's and has the number that its own enrolment found
  pub record Fits (before : List (Event K)) (event : Event K) : Type 0 where
    pub linked : event.found ≡ at (machine.initial table) before event.place
    pub caller : event.caller < machine.callers table
    pub enrolled : machine.Enrols event.kind → event.found ≡ event.caller
    pub allowed : machine.Allows table (local before event.caller) event

  -- every event fits the trace before it
  abbrev pub Run : List (Event K) → Type 0
  Run trace = Each (λ event before. Fits before event) trace
