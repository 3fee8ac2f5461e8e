-- Why an attempt was left, told by the events of the call that left it. Events stand with the newest first.
use Rattle.std.specs.Prelude.{◌≡◌, ℕ, ◌≤◌, ◌==◌, ◌&&◌, Bool, true, false, not, List, [], ◌∷◌, ◌++◌, length}
use Rattle.dstm_core.specs.Events.{Event}
use Rattle.dstm_core.specs.Kinds.{is_one_of}
use Rattle.dstm_core.specs.declared.event.Kind.{Kind}
use Rattle.dstm_core.specs.declared.event.Kind.TheVariants.{LookStatus, LookSelf, Validating as ToValidating, Commit, Quit, Pause, Resume}
use Rattle.dstm_core.specs.declared.shape.Manager.TheVariants.{Greedy}
use Rattle.dstm_core.specs.declared.shape.Shape.{Shape}
use Rattle.dstm_core.specs.declared.status.Status.TheVariants as status
use Rattle.dstm_core.specs.Rules.{after}
use Rattle.dstm_core.specs.State.{LocalState, is_live, or_zero, own_attempt, res}
use Rattle.dstm_core.specs.Words.{code_of, place}
use Rattle.dstm_core.specs.Words.Word.{StatusWord}
use Rattle.dstm_order.specs.declared.again.Again.{Again}
use Rattle.dstm_order.specs.declared.again.Again.TheVariants.{Stale, Killed, Lost, Waited}
use Rattle.dstm_order.specs.Efforts.{most_missed, most_patience}
use Rattle.dstm_order.specs.Calls.{state_after}
use Rattle.dstm_order.specs.Order.{is_paused}
use Rattle.dstm_order.specs.Passes.{misses}

-- ---- what one event shows, by its caller's state before it

-- the event found a word that is not the recorded one
abbrev pub finds_stale : Shape → LocalState → Event → Bool
finds_stale shape state event = (after event.kind shape state event).stale && not state.stale

-- the event is at its caller's own status, which its caller gave before
abbrev pub is_at_own : Kind → Bool
is_at_own = is_one_of (LookSelf ∷ ToValidating ∷ Commit ∷ Quit ∷ Pause ∷ Resume ∷ [])

-- the event found its caller's own status aborted
abbrev pub finds_aborted : Shape → LocalState → Event → Bool
finds_aborted shape state event = is_at_own event.kind && (event.found == code_of status.Aborted)

abbrev pub is_look_status : Kind → Bool
is_look_status = is_one_of (LookStatus ∷ [])

-- an attempt that gives way found the enemy live and not waiting
abbrev pub gives_way : Shape → LocalState → Event → Bool
gives_way shape state event =
    is_paused state.phase && is_look_status event.kind
    && (is_live event.found && not (event.found == code_of status.Waiting))

-- ---- in one call, which began in this state

-- an event of the call passes a test, at this place
pub record Has (test : Shape → LocalState → Event → Bool) (at_place : ℕ) (shape : Shape) (state : LocalState)
    (events : List Event) : Type 0 where
  pub later : List Event
  pub event : Event
  pub before : List Event
  pub whole : events ≡ later ++ event ∷ before
  pub passes : test shape (state_after shape state before) event ≡ true
  pub at : event.place ≡ at_place

-- some events in a row, each of which passes a test
abbrev pub AllPass : (Shape → LocalState → Event → Bool) → Shape → LocalState → (row before : List Event) → Type 0
AllPass test shape state [] before = Unit {0}
AllPass test shape state (event ∷ row) before =
    AllPass test shape state row before × (test shape (state_after shape state (row ++ before)) event ≡ true)

-- all these events are at one place
abbrev pub AllAt : ℕ → List Event → Type 0
AllAt at_place [] = Unit {0}
AllAt at_place (event ∷ events) = (event.place ≡ at_place) × AllAt at_place events

-- One wait of the greatest length: under Greedy the attempt gave way to an enemy that is not younger, and looked at
-- its status so many times in a row.
pub record WaitsOut (shape : Shape) (state : LocalState) (events : List Event) : Type 0 where
  pub later : List Event
  pub looks : List Event
  pub pause : Event
  pub before : List Event
  pub whole : events ≡ later ++ (looks ++ pause ∷ before)
  pub greedy : shape.manager ≡ Greedy
  pub pauses : pause.kind ≡ Pause
  pub older : or_zero (res (state_after shape state before)).rank ≤ (state_after shape state before).rank
  pub one_enemy : AllAt (place shape (StatusWord (or_zero (res (state_after shape state before)).owner))) looks
  pub count : length looks ≡ most_patience
  pub all : AllPass gives_way shape state looks (pause ∷ before)

-- THE CAUSE of each Again, in the events of the call that gave it: an event found the object of a read changed; or
-- found the own status aborted; or so many exchanges failed; or the attempt gave way for so long.
abbrev pub Causes : Again → Shape → LocalState → List Event → Type 0
Causes (Stale o) shape state events = Has finds_stale o shape state events
Causes Killed shape state events =
    Has finds_aborted (place shape (StatusWord (own_attempt shape state))) shape state events
Causes Lost shape state events = misses events ≡ most_missed
Causes Waited shape state events = WaitsOut shape state events
