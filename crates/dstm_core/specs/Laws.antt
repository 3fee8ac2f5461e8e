-- The laws of core runs, over every law on maps, every shape and all first values.
--
-- A run has its newest event first: `before` is a prefix of the run `later ++ before`.
use Rattle.std.specs.Prelude.{◌≡◌, ◌⊎◌, ℕ, ◌+◌, ◌-◌, ◌*◌, ◌<◌, ◌≤◌, ◌==◌, ◌&&◌, Bool, true, false, not, List, [], ◌∷◌, ◌++◌, if◌then◌else◌}
use Rattle.dstm_model.specs.declared.value.Val.{Val}
use Rattle.dstm_core.specs.Events.{Event}
use Rattle.dstm_core.specs.declared.event.Kind.TheVariants.{Install}
use Rattle.dstm_core.specs.declared.shape.Shape.{Shape}
use Rattle.dstm_core.specs.declared.status.Status.TheVariants as status
use Rattle.dstm_core.specs.Histories.{CoreRun}
use Rattle.dstm_core.specs.Rules.{access}
use Rattle.dstm_core.specs.Runs.{local}
use Rattle.dstm_core.specs.Traces.{Access, word}
use Rattle.dstm_machines.specs.Traces.Access.{Load}
use Rattle.dstm_core.specs.Words.{Word, place, code_of}
use Rattle.dstm_core.specs.Words.Word.{StatusWord, OwnerWord, OldWord, LowWord, HighWord}

-- every prefix of a core run is a core run
abbrev pub EveryPrefixIsOne : {L : Type 0} → (L → List Val → Type 0) → Type 0
EveryPrefixIsOne {L = L} holds =
    (law : L) (shape : Shape) (start : List Val) (later before : List Event) →
    CoreRun shape start (holds law) (later ++ before) → CoreRun shape start (holds law) before

-- committed or aborted
abbrev pub IsFinished : ℕ → Type 0
IsFinished code = (code ≡ code_of status.Committed) ⊎ (code ≡ code_of status.Aborted)

-- a status that is committed or aborted never changes
abbrev pub FinishedStays : {L : Type 0} → (L → List Val → Type 0) → Type 0
FinishedStays {L = L} holds =
    (law : L) (shape : Shape) (start : List Val) (later before : List Event) (a : ℕ) →
    CoreRun shape start (holds law) (later ++ before) → a < shape.callers * shape.attempts →
    IsFinished (word shape before (StatusWord a)) →
    word shape (later ++ before) (StatusWord a) ≡ word shape before (StatusWord a)

-- an Install that succeeded
pub record Installs (event : Event) : Type 0 where
  pub kind : event.kind ≡ Install
  pub succeeds : event.found ≡ event.expected

abbrev pub is_load : Access → Bool
is_load Load = true
is_load access = false

-- how many events of a run are at this word and no loads
abbrev pub put_count : Shape → List Event → Word → ℕ
put_count shape [] w = 0
put_count shape (event ∷ before) w =
    if not (is_load (access event.kind shape (local shape before event.caller) event))
    && (event.place == place shape w)
    then put_count shape before w + 1
    else put_count shape before w

-- from one prefix of a run to another, locator l keeps its owner and its old version, and in the later one each
-- of its new words was put at most once
pub record StaysInstalled (shape : Shape) (before after : List Event) (l : ℕ) : Type 0 where
  pub owner : word shape after (OwnerWord l) ≡ word shape before (OwnerWord l)
  pub old : word shape after (OldWord l) ≡ word shape before (OldWord l)
  pub low : put_count shape after (LowWord l) ≤ 1
  pub high : put_count shape after (HighWord l) ≤ 1

-- after a successful Install, which puts its locator's number plus 1, that locator stays as it was installed
abbrev pub InstalledStays : {L : Type 0} → (L → List Val → Type 0) → Type 0
InstalledStays {L = L} holds =
    (law : L) (shape : Shape) (start : List Val) (later before : List Event) (event : Event) →
    CoreRun shape start (holds law) (later ++ event ∷ before) → Installs event →
    StaysInstalled shape (event ∷ before) (later ++ event ∷ before) (event.put - 1)
