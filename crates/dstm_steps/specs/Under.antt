-- A call under way.
use Rattle.std.specs.Prelude.{◌≡◌, ℕ, ◌<◌, Bool, true, false, not, length, ◌||◌, ◌==◌, List, ◌∷◌, ◌++◌, Option, Some, None, IfSome}
use Rattle.dstm_core.specs.Events.{Event}
use Rattle.dstm_core.specs.declared.event.Kind.{Kind}
use Rattle.dstm_core.specs.declared.event.Kind.TheVariants.{LookObj, Install, Release, Rank, PutHigh, PutNew, Validating as ToValidating, Commit, Kill, Quit, Pause, Resume}
use Rattle.dstm_core.specs.declared.shape.Shape.{Shape}
use Rattle.dstm_core.specs.declared.state.Phase.TheVariants.{Running}
use Rattle.dstm_core.specs.Rules.{after, target, access, May}
use Rattle.dstm_core.specs.State.{LocalState, own_attempt, keep_resolved, record_resolved}
use Rattle.dstm_core.specs.Traces.{Access, IsPastOf, events_of}
use Rattle.dstm_core.specs.Words.{place}
use Rattle.dstm_machines.specs.Traces.Access.{Load}
use Rattle.dstm_model.specs.declared.value.Val.{Val}
use Rattle.dstm_words.specs.Seats.{caller_view, event_by, Home, view_of, caller_state, IsOf, IsRunOf}
use Rattle.rand_pcg.specs.Lcg.{Lcg}
use Rattle.dstm_order.specs.Calls.{Obeys, state_after, effort_of, newest_of, answer}
use Rattle.dstm_order.specs.declared.again.Again.{Again}
use Rattle.dstm_order.specs.Efforts.{Effort, effort_after}
use Rattle.dstm_order.specs.Order.{Due, due, in_resolving, when_resolved, when_passed}
use Rattle.dstm_order.specs.declared.TheConstants.{MAX_MISSED}
use Rattle.dstm_order.specs.Tasks.{Task, Work}
use Rattle.dstm_order.specs.Tasks.Task.{Doing}
use Rattle.dstm_order.specs.Tasks.Work.{Rechecking}
use Rattle.dstm_steps.specs.declared.steps.Steps.{Steps}

-- how a call began
pub record Began : Type 0 where
  pub task : Task
  pub number : ℕ  -- of its caller
  pub state : LocalState
  pub generator : Lcg
  pub log : List Event  -- what the caller had seen before it

-- what a call on a live attempt is to do
abbrev pub work_of : Task → Work
work_of (Doing work) = work
work_of task = Rechecking

-- a call on a live attempt
abbrev pub doing : Began → Task
doing began = Doing (work_of began.task)

-- the event of this kind by which the call goes on
abbrev pub made_by : Began → Access → Kind → ℕ → ℕ → Event
made_by began way kind at found = event_by way began.number kind at found

-- the operand of an event by its place and the number that it stores
abbrev pub operand_of : Kind → (at put : ℕ) → ℕ
operand_of LookObj at put = at
operand_of Release at put = at
operand_of PutHigh at put = put
operand_of PutNew at put = put
operand_of Rank at put = put
operand_of kind at put = 0

-- events of this kind are exchanges
abbrev pub is_exchange : Kind → Bool
is_exchange Install = true
is_exchange ToValidating = true
is_exchange Commit = true
is_exchange Kill = true
is_exchange Quit = true
is_exchange Pause = true
is_exchange Resume = true
is_exchange kind = false

-- the event is aimed at its word, acts on it as it should, and may come, if the word is one of the table's
pub record MayStep (shape : Shape) (state : LocalState) (kind : Kind) (way : Access) (event : Event) : Type 0 where
  pub place : event.place ≡ place shape (target kind shape state event)
  pub access : access kind shape state event ≡ way
  pub may : May kind shape state event

module _ {L : Type 0} where
  -- the state of the caller
  abbrev pub now : Home L → Steps L → LocalState
  now home steps = caller_state home.terms (view_of steps.seat)

  -- what the call has behind it
  abbrev pub effort_by : Steps L → Effort
  effort_by steps = record {
    missed = steps.missed;
    round = steps.round;
    left = steps.left;
    generator = steps.decider.generator;
  }

  -- what the caller remembers of its state: its attempt, the locators that it has installed, its rank
  pub record IsMirror (shape : Shape) (steps : Steps L) (state : LocalState) : Type 0 where
    pub own : steps.own ≡ own_attempt shape state
    pub installed : steps.installed ≡ state.installed
    pub rank : steps.rank ≡ state.rank

  -- So far in a call with this task each event was due. This is due next, and the call answers this if it ends here.
  pub record InTask (holds : L → List Val → Type 0) (home : Home L) (task : Task) (began : Began) (steps : Steps L)
      (next : Due) (again : Option Again) : Type 0 where
    pub seat : IsOf home steps.seat
    pub number : (view_of steps.seat).number ≡ Some began.number
    pub view : view_of steps.seat ≡ caller_view home.terms began.number (view_of steps.seat).log
    pub caller : began.number < home.terms.shape.callers
    pub run : IsRunOf holds home.terms (view_of steps.seat).log
    pub seen : IsPastOf began.log (view_of steps.seat).log
    pub shape : steps.shape ≡ home.terms.shape
    pub manager : steps.decider.manager ≡ home.terms.shape.manager
    pub mirror : IsMirror home.terms.shape steps (now home steps)
    pub events : List Event
    pub own : events_of began.number (view_of steps.seat).log ≡ events ++ events_of began.number began.log
    pub top : IfSome (newest_of events) (λ event. (before : List Event) × ((view_of steps.seat).log ≡ event ∷ before))
    pub state : now home steps ≡ state_after home.terms.shape began.state events
    pub obeys : Obeys task home.terms.shape began.state began.generator events
    pub effort : effort_of home.terms.shape began.state began.generator events ≡ effort_by steps
    pub due : due task home.terms.shape (newest_of events) (now home steps) (effort_by steps) ≡ next
    pub gives : answer task (newest_of events) (now home steps) (effort_by steps) ≡ again

  -- the same of a call on a live attempt
  abbrev pub Under :
      (holds : L → List Val → Type 0) → Home L → Began → Steps L → (next : Due) → (again : Option Again) → Type 0
  Under holds home began steps next again = InTask holds home (doing began) began steps next again

  -- the object is being resolved
  abbrev pub Resolving : (holds : L → List Val → Type 0) → Home L → Began → Steps L → Type 0
  Resolving holds home began steps =
      Under holds home began steps
      (in_resolving home.terms.shape.manager (now home steps) (effort_by steps) (when_resolved (work_of began.task)))
      None

  -- an event of this kind found this word, and the object is being resolved still
  pub record Looked (holds : L → List Val → Type 0) (home : Home L) (began : Began) (old new : Steps L) (kind : Kind)
      (found : ℕ) : Type 0 where
    pub state : now home new ≡ after kind home.terms.shape (now home old) (made_by began Load kind 0 found)
    pub under : Resolving holds home began new
    pub rest : new ≡ record old { seat = new.seat }

  -- it is resolved
  abbrev pub Resolved : (holds : L → List Val → Type 0) → Home L → Began → Steps L → Type 0
  Resolved holds home began steps = Under holds home began steps (when_resolved (work_of began.task)) None

  -- a pass is complete
  abbrev pub Passed : (holds : L → List Val → Type 0) → Home L → Began → Steps L → Type 0
  Passed holds home began steps =
      Under holds home began steps (when_passed (work_of began.task) home.terms.shape.manager (now home steps)) None

  -- the steps after an event, by their seat and what they remember: the call goes on with it
  pub record After (home : Home L) (old new : Steps L) (event : Event) : Type 0 where
    pub shape : new.shape ≡ old.shape
    pub manager : new.decider.manager ≡ old.decider.manager
    pub mirror : IsMirror home.terms.shape new (after event.kind home.terms.shape (now home old) event)
    pub effort : effort_after event.kind home.terms.shape.manager (now home old) (effort_by old) event ≡ effort_by new

  -- what is due after an event
  abbrev pub due_next_by : Home L → Task → Steps L → Event → Due
  due_next_by home task steps event =
      due task home.terms.shape (Some event) (now home steps) (effort_by steps)

  -- what the call answers if it ends with an event
  abbrev pub answer_by : Home L → Task → Steps L → Event → Option Again
  answer_by home task steps event = answer task (Some event) (now home steps) (effort_by steps)

  -- The caller made the event. The call goes on, by whatever steps have the seat after it and remember what they
  -- should.
  pub record WentOn (holds : L → List Val → Type 0) (home : Home L) (task : Task) (began : Began)
      (old new : Steps L) (event : Event) : Type 0 where
    pub log : (between : List Event) × ((view_of new.seat).log ≡ event ∷ between ++ (view_of old.seat).log)
    pub state : now home new ≡ after event.kind home.terms.shape (now home old) event
    pub goes_on : (steps : Steps L) → steps.seat ≡ new.seat → After home old steps event →
        InTask holds home task began steps (due_next_by home task steps event) (answer_by home task steps event)

  -- the same of a call on a live attempt
  abbrev pub due_by : Home L → Began → Steps L → Event → Due
  due_by home began steps event = due_next_by home (doing began) steps event

  abbrev pub again_by : Home L → Began → Steps L → Event → Option Again
  again_by home began steps event = answer_by home (doing began) steps event

  abbrev pub Went : (holds : L → List Val → Type 0) → Home L → Began → (old new : Steps L) → Event → Type 0
  Went holds home began old new event = WentOn holds home (doing began) began old new event

-- the attempt runs, and has found no read stale
pub record IsRunning (state : LocalState) : Type 0 where
  pub phase : state.phase ≡ Running
  pub agreed : state.stale ≡ false
  pub uncommitted : state.committed ≡ false

-- it does, and this is due next in the call, which has tries left
pub record RunsOn {L : Type 0} (holds : L → List Val → Type 0) (home : Home L) (began : Began) (steps : Steps L)
    (next : Due) : Type 0 where
  pub under : Under holds home began steps next None
  pub running : IsRunning (now home steps)
  pub tries : steps.missed < MAX_MISSED

-- the state after a complete pass that began with this number
abbrev pub passed : ℕ → LocalState → LocalState
passed number state = record state {
  resolution = keep_resolved state.resolution;
  reads = record_resolved state.resolution state.reads;
  owed = state.owed || not (length (record_resolved state.resolution state.reads) == length state.reads);
  pass = None;
  checked = 0;
  last_pass = Some number;
}
