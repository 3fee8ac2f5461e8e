-- Calls of the engine: the events of a call, and what it answers.
use Rattle.std.specs.Prelude.{◌≡◌, ℕ, ◌-◌, ◌==◌, ◌&&◌, ◌||◌, Bool, true, false, not, List, [], ◌∷◌, slice_get, Option, Some, None, is_some, if◌then◌else◌}
use Rattle.dstm_machines.specs.Machines as machines
pub use Rattle.dstm_machines.specs.Traces.{newest_of}
use Rattle.dstm_core.specs.Events.{Event}
use Rattle.dstm_core.specs.Kinds.{is_one_of}
use Rattle.dstm_core.specs.declared.event.Kind.{Kind}
use Rattle.dstm_core.specs.declared.event.Kind.TheVariants.{Quit}
use Rattle.dstm_core.specs.declared.shape.Shape.{Shape}
use Rattle.dstm_core.specs.Rules.{is_outside}
use Rattle.dstm_core.specs.Runs.{core}
use Rattle.dstm_core.specs.State.{LocalState, or_read, res}
use Rattle.rand_pcg.specs.Lcg.{Lcg}
use Rattle.dstm_order.specs.declared.again.Again.{Again}
use Rattle.dstm_order.specs.declared.again.Again.TheVariants.{Stale, Killed, Lost, Waited}
use Rattle.dstm_order.specs.Efforts.{Effort, no_effort, effort_after, most_missed}
use Rattle.dstm_order.specs.Order.{Due, IsDue, due}
use Rattle.dstm_order.specs.Order.Due.{Done}
use Rattle.dstm_order.specs.Tasks.{Task}
use Rattle.dstm_order.specs.Tasks.Task.{Doing}

-- ---- the events of a call, the newest first

-- the caller's state after its events
abbrev pub state_after : Shape → LocalState → List Event → LocalState
state_after shape state events = machines.state_after core shape state events

-- what the call has behind it after its events
abbrev pub effort_of : Shape → LocalState → Lcg → List Event → Effort
effort_of shape state generator [] = no_effort generator
effort_of shape state generator (event ∷ events) =
    effort_after event.kind shape.manager (state_after shape state events)
    (effort_of shape state generator events) event

-- what is due after its events
abbrev pub due_after : Task → Shape → LocalState → Lcg → List Event → Due
due_after task shape state generator events =
    due task shape (newest_of events) (state_after shape state events) (effort_of shape state generator events)

-- each of its events was due
abbrev pub Obeys : Task → Shape → LocalState → Lcg → List Event → Type 0
Obeys task shape state generator [] = Unit {0}
Obeys task shape state generator (event ∷ events) =
    Obeys task shape state generator events × IsDue (due_after task shape state generator events) event

-- A CALL that begins in a caller's state and with its generator: each of its events was due, and nothing more is.
pub record IsCall
    (task : Task) (shape : Shape) (state : LocalState) (generator : Lcg) (events : List Event) : Type 0 where
  pub obeys : Obeys task shape state generator events
  pub done : due_after task shape state generator events ≡ Done

-- ---- what a call answers

abbrev pub is_quit : Kind → Bool
is_quit = is_one_of (Quit ∷ [])

abbrev pub has_quit : Option Event → Bool
has_quit None = false
has_quit (Some event) = is_quit event.kind

-- the object whose word was found to be another one: that of the read checked last, or that being resolved
abbrev pub stale_object : LocalState → ℕ
stale_object state =
    if is_some state.pass || is_some state.drawn
    then (or_read (slice_get state.reads (state.checked - 1))).object
    else (res state).object

-- WHY AN ATTEMPT WAS LEFT by a call, and must be made again. It quit, since a read was found stale, since too many
-- exchanges failed, or since it gave way for too long; or it was aborted by another.
abbrev pub quit_cause : LocalState → Effort → Again
quit_cause state effort =
    if state.stale then Stale (stale_object state)
    else if effort.missed == most_missed then Lost
    else Waited

abbrev pub cause : Option Event → LocalState → Effort → Again
cause newest state effort = if has_quit newest then quit_cause state effort else Killed

-- what a call answers in the end: a cause where it has left the attempt that it worked on, and that did not commit
abbrev pub answer : Task → (newest : Option Event) → LocalState → Effort → Option Again
answer (Doing work) newest state effort =
    if is_outside state.phase && not state.committed then Some (cause newest state effort) else None
answer task newest state effort = None

abbrev pub answer_of : Task → Shape → LocalState → Lcg → List Event → Option Again
answer_of task shape state generator events =
    answer task (newest_of events) (state_after shape state events) (effort_of shape state generator events)
