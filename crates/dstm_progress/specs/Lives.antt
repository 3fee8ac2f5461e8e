-- Laws of callers whose own events are those of calls.
use Rattle.std.specs.Prelude.{◌≡◌, ◌≢◌, ◌⊎◌, ◌==◌, ◌||◌, ◌∷◌, ◌++◌, ℕ, Bool, true, false, List, []}
use Rattle.rand_pcg.specs.Lcg.{Lcg}
use Rattle.dstm_core.specs.Events.{Event}
use Rattle.dstm_core.specs.Runs.{Core, local}
use Rattle.dstm_core.specs.State.{LocalState}
use Rattle.dstm_core.specs.Traces.{events_of}
use Rattle.dstm_core.specs.declared.shape.Shape.{Shape}
use Rattle.dstm_machines.specs.Traces.{Each}
use Rattle.dstm_order.specs.Made.{ByCalls}
use Rattle.dstm_order.specs.Retries.{AnyTask, KeepsRank, KeepsReads, TriesAgain}
use Rattle.dstm_core.specs.declared.event.Kind.{Kind}
use Rattle.dstm_core.specs.declared.event.Kind.TheVariants.{Begin, Check, Install, Kill, LookNumber, LookSelf, Quit, Release}
use Rattle.dstm_managers.specs.declared.decider.Choice.TheVariants as decision
use Rattle.dstm_order.specs.Calls.{Obeys, effort_of, state_after}
use Rattle.dstm_order.specs.Efforts.{chosen}
use Rattle.dstm_order.specs.Tasks.{Task, Work}
use Rattle.dstm_order.specs.Tasks.Task.{Beginning, Doing, Enrolling, Leaving}
use Rattle.dstm_progress.specs.Oldest.{IsNoReading}

-- A RETRY KEEPS ITS RANK, in every core run in which the caller's own events are those of calls
abbrev pub RetriesKeep : Type 0
RetriesKeep =
    (shape : Shape) (generator : Lcg) (log : List Event) (c : ℕ) → Core shape log →
    ByCalls TriesAgain shape generator log c →
    Each (λ event before. event.caller ≡ c → KeepsRank (local shape before c) event) log

-- an event that lets a read go
abbrev pub lets_go : Kind → Bool
lets_go Release = true
lets_go kind = false

-- NO RELEASE where no call was to let a read go
abbrev pub NoReleases : Type 0
NoReleases =
    (shape : Shape) (generator : Lcg) (log : List Event) (c : ℕ) → ByCalls KeepsReads shape generator log c →
    Each (λ event before. event.caller ≡ c → event.kind ≢ Release) log

-- a caller that opens no object for reading
abbrev pub OpensNoneToRead : LocalState → Task → Type 0
OpensNoneToRead state Enrolling = Unit {0}
OpensNoneToRead state (Beginning fresh) = Unit {0}
OpensNoneToRead state Leaving = Unit {0}
OpensNoneToRead state (Doing work) = IsNoReading work

-- a caller that makes a transaction again until it commits, and where all opens are for writing opens none for reading
pub record TriesByShape (shape : Shape) (state : LocalState) (task : Task) : Type 0 where
  pub again : TriesAgain state task
  pub opens : shape.all_write ≡ true → OpensNoneToRead state task

-- it has recorded no read, and so has found none stale
pub record HasReadNothing (state : LocalState) : Type 0 where
  pub reads : state.reads ≡ []
  pub agreed : state.stale ≡ false

-- NOTHING IS STALE of a caller that opens no object for reading, at any time
abbrev pub NothingIsStale : Type 0
NothingIsStale =
    (shape : Shape) (generator : Lcg) (log : List Event) (c : ℕ) → Core shape log →
    ByCalls OpensNoneToRead shape generator log c →
    (later before : List Event) → log ≡ later ++ before → HasReadNothing (local shape before c)

-- A KILL comes only where the manager, asked about that enemy after the rounds waited, chose it
abbrev pub KillsAreChosen : Type 0
KillsAreChosen =
    (work : Work) (shape : Shape) (state : LocalState) (generator : Lcg) (event : Event) (events : List Event) →
    Obeys (Doing work) shape state generator (event ∷ events) → event.kind ≡ Kill →
    chosen shape.manager (state_after shape state events) (effort_of shape state generator events) ≡ decision.Kill

-- ---- what an attempt was handed

-- A value that an open hands out awaits a sight: from the LookNumber that records a read, or the Install that opens for
-- writing, until a LookSelf ends a pass. A Quit drops it, and an attempt that begins was handed nothing.
abbrev pub awaits_after : Kind → Event → (awaited : Bool) → Bool
awaits_after LookNumber event awaited = true
awaits_after Install event awaited = awaited || event.found == event.expected
awaits_after LookSelf event awaited = false
awaits_after Begin event awaited = false
awaits_after Quit event awaited = false
awaits_after kind event awaited = awaited

-- after an attempt's own events, the newest first, a value awaits a sight
abbrev pub awaits_sight : List Event → Bool
awaits_sight [] = false
awaits_sight (event ∷ events) = awaits_after event.kind event (awaits_sight events)

-- an event of a pass, or the one that gives up
abbrev pub IsOfPass : Kind → Type 0
IsOfPass kind = (kind ≡ LookNumber) ⊎ (kind ≡ Check) ⊎ (kind ≡ LookSelf) ⊎ (kind ≡ Quit)

-- EVERY VALUE IS VALIDATED: what an attempt was handed is in a sight before the attempt does anything else but give up,
-- and before the call ends.
abbrev pub EveryValueIsValidated : Type 0
EveryValueIsValidated =
    (shape : Shape) (generator : Lcg) (log : List Event) (c : ℕ) → Core shape log →
    ByCalls AnyTask shape generator log c →
    Each (λ event before. awaits_sight before ≡ true → IsOfPass event.kind) (events_of c log)
    × (awaits_sight (events_of c log) ≡ false)
