-- Calls of the engine: the events of a call, what it answers, and why.
use Rattle.std.specs.Prelude.{◌≡◌, ℕ, Bool, true, false, List, [], ◌∷◌, ◌++◌, Option, Some, None, if◌then◌else◌}
use Rattle.dstm_machines.specs.Machines as machines
pub use Rattle.dstm_machines.specs.Traces.{newest_of}
use Rattle.dstm_tl2.specs.declared.kind.Kind.{Kind}
use Rattle.dstm_tl2.specs.declared.kind.Kind.TheVariants.{LookLock}
use Rattle.dstm_tl2.specs.Failing.{fails, is_locked}
use Rattle.dstm_tl2.specs.Rules.{Event}
use Rattle.dstm_tl2.specs.Runs.{tl2}
use Rattle.dstm_tl2.specs.State.{LocalState}
use Rattle.dstm_tl2.specs.Words.{Table}
use Rattle.dstm_tl2_order.specs.declared.again.TlAgain.{TlAgain}
use Rattle.dstm_tl2_order.specs.declared.again.TlAgain.TheVariants.{Locked, Newer, Changed}
use Rattle.dstm_tl2_order.specs.Order.{Due, IsDue, due}
use Rattle.dstm_tl2_order.specs.Order.Due.{Done}
use Rattle.dstm_tl2_order.specs.Tasks.{Task}

-- ---- the events of a call, the newest first

-- the caller's state after its events
abbrev pub state_after : Table → LocalState → List Event → LocalState
state_after table state events = machines.state_after tl2 table state events

-- what is due after its events
abbrev pub due_after : Task → Table → LocalState → List Event → Due
due_after task table state events = due task table (newest_of events) (state_after table state events)

-- each of its events was due
abbrev pub Obeys : Task → Table → LocalState → List Event → Type 0
Obeys task table state [] = Unit {0}
Obeys task table state (event ∷ events) =
    Obeys task table state events × IsDue table (due_after task table state events) event

-- A CALL that begins in a caller's state: each of its events was due, and nothing more is.
pub record IsCall (task : Task) (table : Table) (state : LocalState) (events : List Event) : Type 0 where
  pub obeys : Obeys task table state events
  pub done : due_after task table state events ≡ Done

-- ---- what a call answers

abbrev pub is_look_lock : Kind → Bool
is_look_lock LookLock = true
is_look_lock kind = false

-- WHY AN ATTEMPT WAS LEFT by a call, and must be made again: the word that the event found was locked; or it was free,
-- with a version above the sample; or it was free, and another one than the recorded word. Each of these events acts on
-- a lock word, which is at the place of its object's number.
abbrev pub cause : Event → TlAgain
cause event =
    if is_locked event.found then Locked event.place
    else if is_look_lock event.kind then Newer event.place
    else Changed event.place

-- what a call answers in the end: the cause, where one of its events has ended the attempt
abbrev pub answer_of : Table → LocalState → List Event → Option TlAgain
answer_of table state [] = None
answer_of table state (event ∷ events) =
    if fails event.kind (state_after table state events) event then Some (cause event)
    else answer_of table state events

-- ---- the causes, one by one

-- an event of a call that has found the lock word of object o, and has ended the attempt by it
pub record Found (table : Table) (state : LocalState) (events : List Event) (o : ℕ) : Type 0 where
  pub event : Event
  pub later : List Event
  pub before : List Event
  pub in_call : events ≡ later ++ event ∷ before
  pub object : event.place ≡ o
  pub fails : fails event.kind (state_after table state before) event ≡ true

-- What an answer says of the call's events:
--   Locked(o): a load or exchange of the lock of o found it locked.
--   Newer(o): a LookLock of o found it free, with a version above the sample.
--   Changed(o): a LookAgain, Lock or Check of o found it free, with another word than the recorded one.
abbrev pub Causes : TlAgain → Table → LocalState → List Event → Type 0
Causes (Locked o) table state events =
    (found : Found table state events o) × (is_locked found.event.found ≡ true)
Causes (Newer o) table state events =
    (found : Found table state events o)
    × (is_locked found.event.found ≡ false) × (is_look_lock found.event.kind ≡ true)
Causes (Changed o) table state events =
    (found : Found table state events o)
    × (is_locked found.event.found ≡ false) × (is_look_lock found.event.kind ≡ false)
