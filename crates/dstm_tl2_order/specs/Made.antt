-- A caller's own events as those of calls that follow the order of steps, one after the other.
use Rattle.std.specs.Prelude.{◌≡◌, ℕ, ◌+◌, List, [], ◌∷◌, ◌++◌, Option, None}
use Rattle.dstm_machines.specs.Traces.{events_of}
use Rattle.dstm_tl2.specs.Rules.{Event}
use Rattle.dstm_tl2.specs.State.{LocalState, first}
use Rattle.dstm_tl2.specs.Words.{Table}
use Rattle.dstm_tl2_order.specs.Calls.{IsCall, answer_of, state_after}
use Rattle.dstm_tl2_order.specs.Laws.{CanLock, price}
use Rattle.dstm_tl2_order.specs.Tasks.{Task}
use Rattle.dstm_tl2_order.specs.Tasks.Task.{Doing}
use Rattle.dstm_tl2_order.specs.declared.again.TlAgain.{TlAgain}

-- a call that was made: what it was to do, and its events, the newest first
pub record Call : Type 0 where
  pub task : Task
  pub events : List Event

-- the events of calls, the newest first
abbrev pub events_in : List Call → List Event
events_in [] = []
events_in (call ∷ calls) = call.events ++ events_in calls

-- from a caller's state
module _ (table : Table) (state : LocalState) where
  -- the state that calls leave, the newest first
  abbrev pub state_by : List Call → LocalState
  state_by calls = state_after table state (events_in calls)

  -- Calls that were made one after the other: each is of a task that may come in the state that those before it left,
  -- and obeys the order of steps from that state on.
  abbrev pub AreMade : (May : LocalState → Task → Type 0) → List Call → Type 0
  AreMade May [] = Unit {0}
  AreMade May (call ∷ calls) =
      AreMade May calls
      × May (state_by calls) call.task
      × IsCall call.task table (state_by calls) call.events

  -- what the newest of them answered
  abbrev pub newest_answer : List Call → Option TlAgain
  newest_answer [] = None
  newest_answer (call ∷ calls) = answer_of table (state_by calls) call.events

  -- their prices, together
  abbrev pub prices : List Call → ℕ
  prices [] = 0
  prices (call ∷ calls) = price call.task (state_by calls) + prices calls

-- ---- which calls may come

-- a caller that locks no more than is written
abbrev pub LocksItsWrites : LocalState → Task → Type 0
LocksItsWrites state task = CanLock task state

-- and whose calls are those on one attempt
abbrev pub IsOnAttempt : LocalState → Task → Type 0
IsOnAttempt state (Doing work) = CanLock (Doing work) state
IsOnAttempt state task = ⊥

-- ---- a life

-- BY CALLS: the caller's own events in the log are those of calls, made one after the other from nothing.
pub record ByCalls (May : LocalState → Task → Type 0) (table : Table) (log : List Event) (c : ℕ) : Type 0 where
  pub calls : List Call
  pub own : events_of c log ≡ events_in calls
  pub made : AreMade table first May calls
