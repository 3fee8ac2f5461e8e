-- A call under way.
use Rattle.std.specs.Prelude.{◌≡◌, ℕ, ◌<◌, List, [], ◌∷◌, ◌++◌, map, take, Option, Some, None, if◌then◌else◌}
use Rattle.dstm_model.specs.declared.value.Val.{Val}
use Rattle.dstm_machines.specs.Traces.{Access, IsPastOf, events_of}
use Rattle.dstm_tl2.specs.declared.kind.Kind.{Kind}
use Rattle.dstm_tl2.specs.declared.kind.Kind.TheVariants.{Sample}
use Rattle.dstm_tl2.specs.Failing.{fails}
use Rattle.dstm_tl2.specs.Rules.{Event, IsTold, after, new_hold}
use Rattle.dstm_tl2.specs.Sharing.{IsRunOf, table_of}
use Rattle.dstm_tl2.specs.State.{LocalState, Hold, first, hold_of}
use Rattle.dstm_tl2.specs.Words.{Table, Word, objects, place}
use Rattle.dstm_machines.specs.Traces.Access.{Load, Store}
use Rattle.dstm_tl2_words.specs.Seats.{caller_view, Home, view_of, caller_state, IsOf}
use Rattle.dstm_seats.specs.Seats.{event_by}
use Rattle.dstm_tl2_order.specs.declared.again.TlAgain.{TlAgain}
use Rattle.dstm_tl2_steps.specs.declared.steps.Steps.{Steps}
use Rattle.dstm_tl2_order.specs.Calls.{Obeys, answer_of, cause, newest_of, state_after}
use Rattle.dstm_tl2_steps.specs.Reads.{slot_read}
use Rattle.dstm_tl2_steps.specs.Opened.{OpenedAs}
use Rattle.dstm_tl2_order.specs.Order.{Due, due, is_spent}
use Rattle.dstm_tl2_order.specs.Order.Due.{Done, FreeAs, Just}
use Rattle.dstm_tl2_order.specs.Tasks.{Task}
use Rattle.dstm_tl2_order.specs.Tasks.Task.{Enrolling, Beginning}

-- how a call began
pub record Began : Type 0 where
  pub task : Task
  pub number : ℕ  -- of its caller
  pub state : LocalState
  pub log : List Event  -- what the caller had seen before it

-- what stands for it, before the call picks it
abbrev pub unbegun : Began
unbegun = record { task = Enrolling; number = 0; state = first; log = [] }

-- the event of this kind by which the call goes on
abbrev pub made_by : Began → Access → Kind → ℕ → ℕ → Event
made_by began way kind at found = event_by way began.number kind at found

-- what the call answers if it ends with an event, in the state before it
abbrev pub answer_by : LocalState → Event → Option TlAgain → Option TlAgain
answer_by state event before = if fails event.kind state event then Some (cause event) else before

-- What follows in a call once nothing is locked any more: one that begins an attempt samples the clock, if there is one
-- left. Any other call ends.
abbrev pub when_free : Task → Table → LocalState → Due
when_free Beginning table state = if is_spent table state then Done else Just Sample
when_free task table state = Done

-- the objects that are still locked are given back first
abbrev pub freed_first : Due → List Hold → Due
freed_first last [] = last
freed_first last (hold ∷ holds) = FreeAs hold.object hold.word

abbrev pub in_freeing : Task → Table → LocalState → Due
in_freeing task table state = freed_first (when_free task table state) state.holds

-- Since `start` the attempt has locked so many of its writes, the first ones, and has done nothing else.
pub record HasLocked (start : LocalState) (writes : List (ℕ × Val)) (count : ℕ) (state : LocalState) : Type 0 where
  pub told : IsTold state writes
  pub same : state ≡ record start {
    writes = state.writes;
    locked = count;
    holds = map (new_hold start) (take count writes);
  }

-- The first of the objects that are still locked is that of a write, of which no part is written; it is locked once.
pub record IsFirst (state : LocalState) (write : ℕ × Val) (rest : List Hold) : Type 0 where
  pub held : state.holds ≡ new_hold state write ∷ rest
  pub once : hold_of write.0 rest ≡ None

module _ {L : Type 0} where
  -- the state of the caller
  abbrev pub now : Home L → Steps L → LocalState
  now home steps = caller_state home.terms (view_of steps.seat)

  -- So far in the call each event was due. This is due next, and the call answers this if it ends here.
  pub record Under (holds : L → List Val → Type 0) (home : Home L) (began : Began) (steps : Steps L) (next : Due)
      (again : Option TlAgain) : Type 0 where
    pub seat : IsOf home steps.seat
    pub view : view_of steps.seat ≡ caller_view home.terms began.number (view_of steps.seat).log
    pub caller : began.number < home.terms.callers
    pub run : IsRunOf holds home.terms (view_of steps.seat).log
    pub seen : IsPastOf began.log (view_of steps.seat).log
    pub places : steps.places ≡ objects (table_of home.terms)
    pub sample : steps.sample ≡ (now home steps).sample
    pub events : List Event
    pub own : events_of began.number (view_of steps.seat).log ≡ events ++ events_of began.number began.log
    pub state : now home steps ≡ state_after (table_of home.terms) began.state events
    pub obeys : Obeys began.task (table_of home.terms) began.state events
    pub due : due began.task (table_of home.terms) (newest_of events) (now home steps) ≡ next
    pub gives : answer_of (table_of home.terms) began.state events ≡ again

  -- The caller made the event, and the call goes on with it.
  pub record Went (holds : L → List Val → Type 0) (home : Home L) (began : Began) (old new : Steps L)
      (again : Option TlAgain) (event : Event) : Type 0 where
    pub state : now home new ≡ after event.kind (table_of home.terms) (now home old) event
    pub goes_on : Under holds home began new (due began.task (table_of home.terms) (Some event) (now home new))
        (answer_by (now home old) event again)

  -- A load of this kind found this in the word, and the call goes on with it.
  pub record Loaded (holds : L → List Val → Type 0) (home : Home L) (began : Began) (old new : Steps L) (kind : Kind)
      (word : Word) (found : ℕ) : Type 0 where
    pub went : Went holds home began old new None (made_by began Load kind (place (table_of home.terms) word) found)
    pub rest : new ≡ record old { seat = new.seat }

  -- A store of this kind put this in the word, and the call goes on with it.
  pub record Stored (holds : L → List Val → Type 0) (home : Home L) (began : Began) (old new : Steps L) (kind : Kind)
      (word : Word) (put : ℕ) : Type 0 where
    pub went : (found : ℕ)
        × Went holds home began old new None (made_by began (Store put) kind (place (table_of home.terms) word) found)
    pub rest : new ≡ record old { seat = new.seat }

  -- The lists have what the machine has of the attempt, and the first writes of the list, so many, are locked and as
  -- they were when they were locked.
  pub record Lists (home : Home L) (steps : Steps L) (opened : OpenedAs) (locked : ℕ) : Type 0 where
    pub objects : opened.objects ≡ objects (table_of home.terms)
    pub reads : map slot_read opened.reads ≡ (now home steps).reads
    pub held : (now home steps).holds ≡ map (new_hold (now home steps)) (take locked opened.writes)
