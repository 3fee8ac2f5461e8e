-- The oldest live transaction.
--
-- A run has its newest event first: `before` is a prefix of the run `later ++ before`.
use Rattle.std.specs.Prelude.{◌≡◌, ◌≢◌, ℕ, ◌<◌, true, List, [], ◌∷◌, ◌++◌, Some}
use Rattle.dstm_core.specs.Events.{Event}
use Rattle.dstm_core.specs.declared.event.Kind.TheVariants.{Begin}
use Rattle.dstm_core.specs.declared.shape.Manager.TheVariants.{Greedy}
use Rattle.dstm_core.specs.declared.shape.Shape.{Shape}
use Rattle.dstm_core.specs.declared.state.Phase.TheVariants.{Outside, Paused}
use Rattle.dstm_core.specs.Runs.{local, Core}
use Rattle.dstm_core.specs.State.{given, own_attempt}
use Rattle.dstm_core.specs.Traces.{events_of, word}
use Rattle.dstm_core.specs.Words.Word.{StatusWord}
use Rattle.dstm_order.specs.Calls.{state_after}
use Rattle.dstm_order.specs.Tasks.{Work}
use Rattle.dstm_order.specs.Tasks.Work.{Reading, Writing, Releasing, Rechecking, Committing}
use Rattle.dstm_order.specs.declared.again.Again.{Again}
use Rattle.dstm_order.specs.declared.again.Again.TheVariants.{Killed, Lost, Waited}
use Rattle.dstm_progress.specs.Alone.{AreCalls, Made, all_events, last_answer}
use Rattle.rand_pcg.specs.Lcg.{Lcg}

-- a caller's transaction is live from its Stamp until it commits: then the stamp stands. That of caller c is
-- live, and each other live one has a greater stamp.
pub record IsOldest (shape : Shape) (run : List Event) (c : ℕ) : Type 0 where
  pub live : (local shape run c).stands ≡ true
  pub least :
      (d : ℕ)
      → d < shape.callers
      → d ≢ c
      → (local shape run d).stands ≡ true
      → (local shape run c).rank < (local shape run d).rank

-- the attempt of caller c does not wait, and its status is the one that c gave it last
pub record IsUntouched (shape : Shape) (run : List Event) (c : ℕ) : Type 0 where
  pub awake : (local shape run c).phase ≢ Paused
  pub status : word shape run (StatusWord (own_attempt shape (local shape run c))) ≡ given
      (local shape run c).phase

-- an attempt that begins while its transaction is the oldest live one never waits, and no other caller changes
-- its status: so it is at every moment at which the attempt is under way
abbrev pub OldestSafe : Type 0
OldestSafe =
    (shape : Shape) (later : List Event) (begin : Event) (before : List Event) →
    Core shape (later ++ begin ∷ before) → shape.manager ≡ Greedy → begin.kind ≡ Begin →
    IsOldest shape (begin ∷ before) begin.caller →
    (local shape (later ++ begin ∷ before) begin.caller).begun ≡ (local shape
    (begin ∷ before) begin.caller).begun →
    (local shape (later ++ begin ∷ before) begin.caller).phase ≢ Outside →
    IsUntouched shape (later ++ begin ∷ before) begin.caller

-- ---- what the calls on it answer

-- no object is opened for reading, as it is where objects that are only read are opened for writing too
abbrev pub IsNoReading : Work → Type 0
IsNoReading (Reading object) = ⊥
IsNoReading (Writing object) = Unit {0}
IsNoReading (Releasing object) = Unit {0}
IsNoReading Rechecking = Unit {0}
IsNoReading (Committing value) = Unit {0}

abbrev pub OpensToWrite : List Made → Type 0
OpensToWrite [] = Unit {0}
OpensToWrite (call ∷ calls) = IsNoReading call.work × OpensToWrite calls

-- calls on an attempt that begins with this event made all of its caller's own events since, and the last call
-- found the attempt under way
pub record AreMade (shape : Shape) (generator : Lcg) (call : Made) (calls : List Made) (later : List Event)
    (begin : Event) (before : List Event) : Type 0 where
  pub own : events_of begin.caller later ≡ call.events ++ all_events calls
  pub made : AreCalls shape (local shape (begin ∷ before) begin.caller) generator (call ∷ calls)
  pub live : (state_after shape (local shape (begin ∷ before) begin.caller) (all_events calls)).phase ≢ Outside

-- it was not aborted by another, and did not give way for too long; where no object was opened for reading, it
-- can only be that too many exchanges failed
pub record IsOfOldest (calls : List Made) (again : Again) : Type 0 where
  pub not_killed : again ≢ Killed
  pub not_waited : again ≢ Waited
  pub writing : OpensToWrite calls → again ≡ Lost

-- why an attempt that begins as the oldest is made again
abbrev pub OldestAnswers : Type 0
OldestAnswers =
    (shape : Shape) (generator : Lcg) (call : Made) (calls : List Made) (later : List Event) (begin : Event)
    (before : List Event) (again : Again) →
    Core shape (later ++ begin ∷ before) → shape.manager ≡ Greedy → begin.kind ≡ Begin →
    IsOldest shape (begin ∷ before) begin.caller → AreMade shape generator call calls later begin before →
    last_answer shape (local shape (begin ∷ before) begin.caller) generator call calls ≡ Some again →
    IsOfOldest (call ∷ calls) again
