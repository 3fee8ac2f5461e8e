-- Opacity: laws of core runs, over every law on maps, every shape and all first values.
--
-- A run has its newest event first: in the run `later ++ event ∷ before` the events of `before` stand
-- before the event. Histories and their prefixes have the oldest entry first.
use Rattle.std.specs.Prelude.{◌≡◌, ◌≢◌, ◌⊎◌, ℕ, ◌<◌, true, false, List, ◌∷◌, ◌++◌, length}
use Rattle.std.specs.List.{Contains}
use Rattle.dstm_model.specs.declared.value.Val.{Val}
use Rattle.dstm_model.specs.Map.{Entry, value_at, Agrees, state_after}
use Rattle.dstm_machines.specs.Histories as histories
use Rattle.dstm_core.specs.Counts.{draw_count}
use Rattle.dstm_core.specs.Events.{Event}
use Rattle.dstm_core.specs.declared.event.Kind.TheVariants.{Begin, LookHigh, LookNew, PutHigh, PutNew, Draw, Commit}
use Rattle.dstm_core.specs.declared.shape.Shape.{Shape}
use Rattle.dstm_core.specs.declared.state.Phase.TheVariants.{Outside}
use Rattle.dstm_core.specs.declared.status.Status.TheVariants as status
use Rattle.dstm_core.specs.Histories.{CoreRun, IsSight, current_value, drawn, entry_of, history_of, pass_place, prefix_at, seen, version_value}
use Rattle.dstm_core.specs.Laws.{Installs}
use Rattle.dstm_core.specs.Runs.{Core, local}
use Rattle.dstm_core.specs.State.{own_attempt, or_zero, res, version}
use Rattle.dstm_core.specs.Traces.{at, word}
use Rattle.dstm_core.specs.Words.{code_of}
use Rattle.dstm_core.specs.Words.Word.{StatusWord}

-- ---- the order of writers

-- no locator is installed twice: no two Installs that succeed put the same word
abbrev pub NoLocatorTwice : {L : Type 0} → (L → List Val → Type 0) → Type 0
NoLocatorTwice {L = L} holds =
    (law : L) (shape : Shape) (start : List Val) (later between before : List Event) (early late : Event) →
    CoreRun shape start (holds law) (later ++ late ∷ (between ++ early ∷ before)) →
    Installs early → Installs late → early.put ≢ late.put

-- the attempt that makes an event
abbrev pub maker_of : Shape → List Event → Event → ℕ
maker_of shape before event = own_attempt shape (local shape before event.caller)

-- the attempt has committed
abbrev pub HasCommitted : Shape → List Event → ℕ → Type 0
HasCommitted shape run a = word shape run (StatusWord a) ≡ code_of status.Committed

-- at this place of a run one attempt has committed, and the other has not drawn its number yet
pub record IsEarlier (shape : Shape) (before : List Event) (one other : ℕ) : Type 0 where
  pub committed : HasCommitted shape before one
  pub has_drawn : drawn shape before one ≡ true
  pub not_drawn : drawn shape before other ≡ false

-- of two attempts that install a locator in the same object the one that installs earlier, where it commits
-- in the run, has committed when the other installs, and draws its number before the other does
abbrev pub WritersInDrawOrder : {L : Type 0} → (L → List Val → Type 0) → Type 0
WritersInDrawOrder {L = L} holds =
    (law : L) (shape : Shape) (start : List Val) (later between before : List Event) (early late : Event) →
    CoreRun shape start (holds law) (later ++ late ∷ (between ++ early ∷ before)) →
    Installs early → Installs late → early.place ≡ late.place →
    HasCommitted shape (later ++ late ∷ (between ++ early ∷ before)) (maker_of shape before early) →
    IsEarlier shape (between ++ early ∷ before) (maker_of shape before early)
    (maker_of shape (between ++ early ∷ before) late)

-- ---- sights

-- a Commit that succeeded
pub record IsCommit (event : Event) : Type 0 where
  pub kind : event.kind ≡ Commit
  pub succeeds : event.found ≡ event.expected

-- a Begin of a caller
pub record IsBeginOf (caller : ℕ) (event : Event) : Type 0 where
  pub kind : event.kind ≡ Begin
  pub own : event.caller ≡ caller

-- some entries hold the entry of every Commit that succeeded before the caller's attempt began: `before` is
-- what stands before a place of a run, where the caller's last Begin is that of its attempt
abbrev pub HoldCommitsBefore : Shape → List Val → List Event → List Event → ℕ → List Entry → Type 0
HoldCommitsBefore shape start run before caller entries =
    (since between early : List Event) (begin commit : Event) →
    before ≡ since ++ begin ∷ (between ++ commit ∷ early) →
    IsBeginOf caller begin → IsCommit commit →
    Contains entries (entry_of shape start run (local shape early commit.caller))

-- the map that a caller has seen: it has every value that was seen, it is lawful, and it has the effect of
-- each transaction that had committed when the caller's attempt began
pub record IsSeen (shape : Shape) (start : List Val) (holds : List Val → Type 0) (run before : List Event)
    (caller : ℕ) (prefix : List Entry) : Type 0 where
  pub values : Agrees (state_after start prefix) (seen shape start run before caller)
  pub lawful : holds start → holds (state_after start prefix)
  pub commits : HoldCommitsBefore shape start run before caller prefix

-- what a sight covers are values of one moment: they are those of the state after the prefix of the history
-- at the sight's place. This says of attempts that abort as much as of those that commit.
abbrev pub PassAgrees : {L : Type 0} → (L → List Val → Type 0) → Type 0
PassAgrees {L = L} holds =
    (law : L) (shape : Shape) (start : List Val) (later before : List Event) (sight : Event) →
    CoreRun shape start (holds law) (later ++ sight ∷ before) → IsSight shape before sight →
    IsSeen shape start (holds law) (later ++ sight ∷ before) before sight.caller
    (prefix_at shape start (later ++ sight ∷ before) (pass_place sight.caller before))

-- ---- histories

-- the committed transactions are a run of one thread, in the order of the numbers drawn: each read what
-- those before it left. Each names an object at most once among its reads, and at most once among its
-- writes.
abbrev pub IsSerial : Shape → List Val → List Entry → Type 0
IsSerial shape start history = histories.IsSerial shape.objects start history

-- the history of a core run is legal from the first values
abbrev pub CommittedLegal : {L : Type 0} → (L → List Val → Type 0) → Type 0
CommittedLegal {L = L} holds =
    (law : L) (shape : Shape) (start : List Val) (run : List Event) →
    CoreRun shape start (holds law) run → IsSerial shape start (history_of shape start run)

-- where the first values are lawful, the state after every prefix of the history is lawful
abbrev pub LawAtEveryPrefix : {L : Type 0} → (L → List Val → Type 0) → Type 0
LawAtEveryPrefix {L = L} holds =
    (law : L) (shape : Shape) (start : List Val) (run : List Event) (prefix rest : List Entry) →
    CoreRun shape start (holds law) run → history_of shape start run ≡ prefix ++ rest → holds law start →
    holds law (state_after start prefix)

-- the numbers drawn rise, so the order of the draws is that of the numbers
abbrev pub NumbersRise : {L : Type 0} → (L → List Val → Type 0) → Type 0
NumbersRise {L = L} holds =
    (law : L) (shape : Shape) (start : List Val) (later between before : List Event) (early late : Event) →
    CoreRun shape start (holds law) (later ++ late ∷ (between ++ early ∷ before)) →
    early.kind ≡ Draw → late.kind ≡ Draw → early.found < late.found

-- a number drawn is how many were drawn before it, by whomever
abbrev pub NumbersCount : {L : Type 0} → (L → List Val → Type 0) → Type 0
NumbersCount {L = L} holds =
    (law : L) (shape : Shape) (start : List Val) (later before : List Event) (draw : Event) →
    CoreRun shape start (holds law) (later ++ draw ∷ before) → draw.kind ≡ Draw → draw.found ≡ draw_count before

-- an attempt that commits has its entry in the history, right after the prefix at its Draw
abbrev pub CommitsStand : {L : Type 0} → (L → List Val → Type 0) → Type 0
CommitsStand {L = L} holds =
    (law : L) (shape : Shape) (start : List Val) (later before : List Event) (draw : Event) →
    CoreRun shape start (holds law) (later ++ draw ∷ before) → draw.kind ≡ Draw →
    HasCommitted shape (later ++ draw ∷ before) (maker_of shape before draw) →
    (rest : List Entry)
    × (history_of shape start (later ++ draw ∷ before)
    ≡ prefix_at shape start (later ++ draw ∷ before) before
    ++ entry_of shape start (later ++ draw ∷ before) (local shape before draw.caller) ∷ rest)

-- the prefix of the history at each place of a run is a prefix of the whole history
abbrev pub PlacesHavePrefixes : {L : Type 0} → (L → List Val → Type 0) → Type 0
PlacesHavePrefixes {L = L} holds =
    (law : L) (shape : Shape) (start : List Val) (later before : List Event) →
    CoreRun shape start (holds law) (later ++ before) →
    (rest : List Entry)
    × (history_of shape start (later ++ before) ≡ prefix_at shape start (later ++ before) before ++ rest)

-- ---- what the words of a table tell

-- a map of the objects with the value of each as the words of a run tell it
pub record IsCurrent (shape : Shape) (start : List Val) (run : List Event) (map : List Val) : Type 0 where
  pub objects : length map ≡ shape.objects
  pub values : (o : ℕ) → o < shape.objects → value_at map o ≡ current_value shape start run o

-- the state after the whole history has the current value of each object
abbrev pub CurrentValues : {L : Type 0} → (L → List Val → Type 0) → Type 0
CurrentValues {L = L} holds =
    (law : L) (shape : Shape) (start : List Val) (run : List Event) →
    CoreRun shape start (holds law) run →
    IsCurrent shape start run (state_after start (history_of shape start run))

-- ---- what stays, in every trace that obeys the rules, whether or not it keeps a law

-- the entry of an attempt that has drawn is the same in every later run
abbrev pub EntryStays : Type 0
EntryStays =
    (shape : Shape) (start : List Val) (later before : List Event) (draw : Event) →
    Core shape (later ++ draw ∷ before) → draw.kind ≡ Draw →
    entry_of shape start (later ++ draw ∷ before) (local shape before draw.caller)
    ≡ entry_of shape start (draw ∷ before) (local shape before draw.caller)

-- a part of a new value, once put, stays
abbrev pub PutStays : Type 0
PutStays =
    (shape : Shape) (later before : List Event) (event : Event) →
    Core shape (later ++ event ∷ before) → (event.kind ≡ PutHigh) ⊎ (event.kind ≡ PutNew) →
    at (later ++ event ∷ before) event.place ≡ event.put

-- what an attempt under way has seen has the same values in every later run
abbrev pub SeenStays : Type 0
SeenStays =
    (shape : Shape) (start : List Val) (later before : List Event) (caller : ℕ) →
    Core shape (later ++ before) → caller < shape.callers → (local shape before caller).phase ≢ Outside →
    seen shape start (later ++ before) before caller ≡ seen shape start before before caller

-- the value, in a run, of the version of the object that an event looks at
abbrev pub looked_at : Shape → List Val → List Event → List Event → Event → Val
looked_at shape start run before look =
    version_value shape start run (res (local shape before look.caller)).object
    (or_zero (version (res (local shape before look.caller))))

-- what a LookHigh and a LookNew find is the value of the version in every later run
pub record IsFound (value : Val) (look : Event) : Type 0 where
  pub high : look.kind ≡ LookHigh → value.high ≡ look.found
  pub low : look.kind ≡ LookNew → value.low ≡ look.found

abbrev pub FoundStays : Type 0
FoundStays =
    (shape : Shape) (start : List Val) (later before : List Event) (look : Event) →
    Core shape (later ++ look ∷ before) →
    IsFound (looked_at shape start (later ++ look ∷ before) before look) look
