-- Laws of what the callers of a core run have committed.
use Rattle.std.specs.Prelude.{◌≡◌, ℕ, List, ◌++◌, map, reverse}
pub use Rattle.dstm_model.specs.Answers.{AreBelow, CallersTellAll, NumbersFall, Stands}
use Rattle.dstm_model.specs.Answers as answers
use Rattle.dstm_model.specs.declared.value.Val.{Val}
use Rattle.dstm_model.specs.Map.{Entry}
use Rattle.dstm_core.specs.Events.{Event}
use Rattle.dstm_core.specs.declared.shape.Shape.{Shape}
use Rattle.dstm_core.specs.Histories.{CoreRun, history_of}
use Rattle.dstm_core.specs.Traces.{events_of}
use Rattle.dstm_opacity.specs.Committed.{Committed, committed_in, by_caller, done_by}

-- the entries of the committed attempts are the history
abbrev pub EntriesAreHistory : Type 0
EntriesAreHistory =
    (shape : Shape) (start : List Val) (run : List Event) →
    history_of shape start run ≡ reverse (map (λ (attempt : Committed). attempt.entry) (committed_in shape start run))

-- of each caller the history has exactly the attempts that its own Commits tell, in their order
abbrev pub EachIsTold : {L : Type 0} → (L → List Val → Type 0) → Type 0
EachIsTold {L = L} holds =
    (law : L) (shape : Shape) (start : List Val) (run : List Event) (c : ℕ) →
    CoreRun shape start (holds law) run →
    by_caller c (committed_in shape start run) ≡ done_by shape start run run c

-- what a caller has committed is told by its own events alone, and is the same in every later run
abbrev pub ToldStays : {L : Type 0} → (L → List Val → Type 0) → Type 0
ToldStays {L = L} holds =
    (law : L) (shape : Shape) (start : List Val) (later before : List Event) (c : ℕ) →
    CoreRun shape start (holds law) (later ++ before) →
    events_of c (later ++ before) ≡ events_of c before →
    done_by shape start (later ++ before) (later ++ before) c ≡ done_by shape start before before c

-- the attempts that commit in a run stand in the order of their numbers, the newest first
abbrev pub CommittedInOrder : {L : Type 0} → (L → List Val → Type 0) → Type 0
CommittedInOrder {L = L} holds =
    (law : L) (shape : Shape) (start : List Val) (run : List Event) →
    CoreRun shape start (holds law) run → NumbersFall (committed_in shape start run)

-- An entry stands in a history: it has read what those before it leave, and this is lawful.
abbrev pub StandsIn : Shape → List Val → (List Val → Type 0) → List Entry → Entry → Type 0
StandsIn shape start holds history entry = answers.StandsIn shape.objects start holds history entry

-- what a caller has committed stands in the history of every later run
abbrev pub DoneStands : {L : Type 0} → (L → List Val → Type 0) → Type 0
DoneStands {L = L} holds =
    (law : L) (shape : Shape) (start : List Val) (later before : List Event) (c : ℕ) (attempt : Committed) →
    CoreRun shape start (holds law) (later ++ before) → Stands attempt (done_by shape start before before c) →
    StandsIn shape start (holds law) (history_of shape start (later ++ before)) attempt.entry
