-- What the order of steps comes to, in the words of the field: complete passes, last validations, opens, and what
-- is counted.
use Rattle.std.specs.Prelude.{◌≡◌, ℕ, ◌+◌, ◌==◌, Bool, true, false, not, List, [], ◌∷◌, ◌++◌, length, slice_get, Some, min, if◌then◌else◌}
use Rattle.dstm_core.specs.Events.{Event}
use Rattle.dstm_core.specs.declared.event.Kind.{Kind}
use Rattle.dstm_core.specs.declared.event.Kind.TheVariants.{Rank, Install, LookNumber, Check, LookSelf, Draw, Commit, Kill}
use Rattle.dstm_core.specs.declared.shape.Shape.{Shape}
use Rattle.dstm_core.specs.declared.state.Phase.TheVariants.{Running}
use Rattle.dstm_core.specs.declared.state.Read.{Read}
use Rattle.dstm_core.specs.Rules.{is_outside}
use Rattle.dstm_core.specs.State.{LocalState, or_read}
use Rattle.dstm_model.specs.declared.value.Val.{Val}
use Rattle.rand_pcg.specs.Lcg.{Lcg}
use Rattle.dstm_order.specs.Calls.{Obeys, IsCall, state_after, effort_of}
use Rattle.dstm_order.specs.Order.{rises, is_same}
use Rattle.dstm_order.specs.Tasks.{Work}
use Rattle.dstm_order.specs.Tasks.Task.{Doing}
use Rattle.dstm_order.specs.Tasks.Work.{Reading, Writing, Committing}

-- The first reads were checked, in the order in which they were recorded, the newest event first, and each object
-- still had the word recorded.
abbrev pub AreChecks : List Read → List Event → Type 0
AreChecks reads [] = Unit {0}
AreChecks reads (event ∷ events) =
    AreChecks reads events
    × (event.kind ≡ Check) × (event.found ≡ (or_read (slice_get reads (length events))).word)

-- how many reads have to be checked after a number was found: none if it is the one with which the last complete pass
-- of this attempt began, since nobody has drawn one in between, and else each
abbrev pub checks_needed : (number : ℕ) → LocalState → ℕ
checks_needed number state = if is_same state.last_pass (Some number) then 0 else length state.reads

-- The newest events are an event that finds a number, the checks that are needed after it, and an event that ends them.
pub record Validates (first last : Kind) (shape : Shape) (state : LocalState) (events : List Event) : Type 0 where
  pub end : Event
  pub checks : List Event
  pub begin : Event
  pub before : List Event
  pub are : events ≡ end ∷ checks ++ begin ∷ before
  pub begins : begin.kind ≡ first
  pub ends : end.kind ≡ last
  pub checked : AreChecks (state_after shape state (begin ∷ before)).reads checks
  pub all : length checks ≡ checks_needed begin.found (state_after shape state (begin ∷ before))

-- A COMPLETE PASS: LookNumber, the checks that it needs, LookSelf.
abbrev pub EndsInPass : Shape → LocalState → List Event → Type 0
EndsInPass shape state events = Validates LookNumber LookSelf shape state events

-- EVERY PASS IS COMPLETE: where a call on a live attempt has come to a LookSelf, it has just made one.
abbrev pub EveryPassIsComplete : Type 0
EveryPassIsComplete =
    (work : Work) (shape : Shape) (state : LocalState) (generator : Lcg) (event : Event) (events : List Event) →
    Obeys (Doing work) shape state generator (event ∷ events) → event.kind ≡ LookSelf →
    EndsInPass shape state (event ∷ events)

-- EVERY COMMIT IS VALIDATED: where a commit has come to its Commit, it has just drawn a number and made the checks that
-- are needed after it.
abbrev pub EveryCommitIsValidated : Type 0
EveryCommitIsValidated =
    (value : ℕ → Val) (shape : Shape) (state : LocalState) (generator : Lcg) (event : Event) (events : List Event) →
    Obeys (Doing (Committing value)) shape state generator (event ∷ events) → event.kind ≡ Commit →
    Validates Draw Commit shape state (event ∷ events)

-- ---- opens

abbrev pub is_open : Work → Bool
is_open (Reading object) = true
is_open (Writing object) = true
is_open work = false

-- a complete pass, and after it the rank is raised by one
pub record EndsInRank (shape : Shape) (state : LocalState) (events : List Event) : Type 0 where
  pub rank : Event
  pub before : List Event
  pub are : events ≡ rank ∷ before
  pub is_rank : rank.kind ≡ Rank
  pub raised : rank.put ≡ min ((state_after shape state before).rank + 1) 1023
  pub pass : EndsInPass shape state before

-- AN OPEN ENDS WITH A COMPLETE PASS, and where ranks rise with a Rank after it, unless it has left the attempt.
abbrev pub EveryOpenEndsInPass : Type 0
EveryOpenEndsInPass =
    (work : Work) (shape : Shape) (state : LocalState) (generator : Lcg) (events : List Event) →
    is_open work ≡ true → state.phase ≡ Running →
    IsCall (Doing work) shape state generator events →
    is_outside (state_after shape state events).phase ≡ false →
    (rises shape.manager ≡ true → EndsInRank shape state events)
    × (rises shape.manager ≡ false → EndsInPass shape state events)

-- ---- misses

-- an exchange that failed, those on the own status aside
abbrev pub is_miss : Kind → Event → Bool
is_miss Install event = not (event.found == event.expected)
is_miss Kill event = not (event.found == event.expected)
is_miss kind event = false

abbrev pub misses : List Event → ℕ
misses [] = 0
misses (event ∷ events) = if is_miss event.kind event then misses events + 1 else misses events

-- a call counts them
abbrev pub EveryMissCounts : Type 0
EveryMissCounts =
    (shape : Shape) (state : LocalState) (generator : Lcg) (events : List Event) →
    (effort_of shape state generator events).missed ≡ misses events
