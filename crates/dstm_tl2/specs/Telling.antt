-- Laws of what the callers of a run of TL2 have committed.
use Rattle.std.specs.Prelude.{◌≡◌, ℕ, List, ◌++◌, map, reverse}
pub use Rattle.dstm_model.specs.Answers.{AreBelow, CallersTellAll, NumbersFall, Stands}
use Rattle.dstm_model.specs.Answers as answers
use Rattle.dstm_model.specs.declared.value.Val.{Val}
use Rattle.dstm_model.specs.Map.{Entry}
use Rattle.dstm_machines.specs.Traces.{events_of}
use Rattle.dstm_tl2.specs.Histories.{LawfulRun, history_of}
use Rattle.dstm_tl2.specs.Rules.{Event}
use Rattle.dstm_tl2.specs.Words.{Table, objects}
use Rattle.dstm_tl2.specs.Committed.{Committed, committed_in, by_caller, done_by}

-- the entries of the committed attempts are the history
abbrev pub EntriesAreHistory : Type 0
EntriesAreHistory =
    (table : Table) (run : List Event) →
    history_of table run ≡ reverse (map (λ (attempt : Committed). attempt.entry) (committed_in table run))

-- of each caller the history has exactly the attempts that its own events tell, in their order
abbrev pub EachIsTold : {L : Type 0} → (L → List Val → Type 0) → Type 0
EachIsTold {L = L} holds =
    (law : L) (table : Table) (run : List Event) (c : ℕ) →
    LawfulRun table (holds law) run → by_caller c (committed_in table run) ≡ done_by table run c

-- what a caller has committed is told by its own events alone, so it is the same in every later run without them
abbrev pub ToldStays : Type 0
ToldStays =
    (table : Table) (one other : List Event) (c : ℕ) → events_of c one ≡ events_of c other →
    done_by table one c ≡ done_by table other c

-- the attempts that commit in a run stand in the order of their numbers, the newest first
abbrev pub CommittedInOrder : {L : Type 0} → (L → List Val → Type 0) → Type 0
CommittedInOrder {L = L} holds =
    (law : L) (table : Table) (run : List Event) →
    LawfulRun table (holds law) run → NumbersFall (committed_in table run)

-- An entry stands in a history: it has read what those before it leave, and this is lawful.
abbrev pub StandsIn : Table → (List Val → Type 0) → List Entry → Entry → Type 0
StandsIn table holds history entry = answers.StandsIn (objects table) table.start holds history entry

-- what a caller has committed stands in the history of every later run
abbrev pub DoneStands : {L : Type 0} → (L → List Val → Type 0) → Type 0
DoneStands {L = L} holds =
    (law : L) (table : Table) (later before : List Event) (c : ℕ) (attempt : Committed) →
    LawfulRun table (holds law) (later ++ before) → Stands attempt (done_by table before c) →
    StandsIn table (holds law) (history_of table (later ++ before)) attempt.entry
