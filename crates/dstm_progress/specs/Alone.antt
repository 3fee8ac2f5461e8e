-- An attempt that is alone: from its Begin on no other caller makes a step. What others left half done before plays
-- no part.
use Rattle.std.specs.Prelude.{◌≡◌, ◌≢◌, ◌⊎◌, ℕ, ◌+◌, ◌*◌, ◌≤◌, true, List, [], ◌∷◌, ◌++◌, length, Option, Some}
use Rattle.std.specs.List.{flat_map}
use Rattle.dstm_core.specs.Events.{Event}
use Rattle.dstm_core.specs.declared.event.Kind.TheVariants.{Begin}
use Rattle.dstm_core.specs.declared.shape.Manager.{Manager}
use Rattle.dstm_core.specs.declared.shape.Manager.TheVariants.{Greedy}
use Rattle.dstm_core.specs.declared.shape.Shape.{Shape}
use Rattle.dstm_core.specs.declared.state.Phase.TheVariants.{Outside}
use Rattle.dstm_core.specs.Runs.{local, Core}
use Rattle.dstm_core.specs.State.{LocalState}
use Rattle.dstm_managers.specs.Meetings.{most_turns}
use Rattle.dstm_model.specs.declared.value.Val.{Val}
use Rattle.dstm_order.specs.Calls.{IsCall, answer_of, effort_of, state_after}
use Rattle.dstm_order.specs.Tasks.{Work}
use Rattle.dstm_order.specs.Tasks.Task.{Doing}
use Rattle.dstm_order.specs.Tasks.Work.{Reading, Writing, Releasing, Rechecking, Committing}
use Rattle.dstm_order.specs.declared.again.Again.{Again}
use Rattle.dstm_order.specs.declared.again.Again.TheVariants.{Waited}
use Rattle.rand_pcg.specs.Lcg.{Lcg}

-- ---- the calls on an attempt

-- a call that was made: what it was to do, and its events, the newest first
pub record Made : Type 0 where
  pub work : Work
  pub events : List Event

-- the events of calls, the newest first
abbrev pub all_events : List Made → List Event
all_events calls = flat_map (λ call. call.events) calls

-- the caller's generator after calls
abbrev pub generator_after : Shape → LocalState → Lcg → List Made → Lcg
generator_after shape state generator [] = generator
generator_after shape state generator (call ∷ calls) =
    (effort_of shape (state_after shape state (all_events calls)) (generator_after shape state generator calls)
    call.events).generator

-- calls that were made one after the other, the newest first
abbrev pub AreCalls : Shape → LocalState → Lcg → List Made → Type 0
AreCalls shape state generator [] = Unit {0}
AreCalls shape state generator (call ∷ calls) =
    AreCalls shape state generator calls
    × IsCall (Doing call.work) shape (state_after shape state (all_events calls))
    (generator_after shape state generator calls) call.events

-- what a call answers that was made after some others
abbrev pub last_answer : Shape → LocalState → Lcg → Made → List Made → Option Again
last_answer shape state generator call calls =
    answer_of (Doing call.work) shape (state_after shape state (all_events calls))
    (generator_after shape state generator calls) call.events

-- ---- alone

-- each event is one of caller c
abbrev pub AreOf : ℕ → List Event → Type 0
AreOf c [] = Unit {0}
AreOf c (event ∷ events) = (event.caller ≡ c) × AreOf c events

-- the attempt that begins with this event is alone: the calls on it made all events since
pub record IsAlone (shape : Shape) (generator : Lcg) (calls : List Made) (begin : Event)
    (before : List Event) : Type 0 where
  pub core : Core shape (all_events calls ++ begin ∷ before)
  pub begins : begin.kind ≡ Begin
  pub alone : AreOf begin.caller (all_events calls)
  pub made : AreCalls shape (local shape (begin ∷ before) begin.caller) generator calls

-- Caller c meets no attempt to which it would give way: only under Greedy does it give way to an older one, and
-- there it made all events so far.
abbrev pub IsUnmet : Shape → ℕ → List Event → Type 0
IsUnmet shape c before = (shape.manager ≢ Greedy) ⊎ AreOf c before

-- ---- the price of a call

-- The most steps of a call on an attempt that is alone. An open waits at most as long as its manager waits for
-- one enemy. Its other steps are at most twelve for reading and sixteen for writing, of which two are those by
-- which the commit will put the new value.
abbrev pub price : Manager → Work → ℕ
price manager (Reading object) = most_turns manager + 12
price manager (Writing object) = most_turns manager + 16
price manager (Releasing object) = 1
price manager Rechecking = 2
price manager (Committing value) = 0

abbrev pub prices : Manager → List Made → ℕ
prices manager [] = 0
prices manager (call ∷ calls) = price manager call.work + prices manager calls

-- the calls of a kind, counted
abbrev pub count : (Work → ℕ) → List Made → ℕ
count kind [] = 0
count kind (call ∷ calls) = kind call.work + count kind calls

abbrev pub is_open : Work → ℕ
is_open (Reading object) = 1
is_open (Writing object) = 1
is_open (Releasing object) = 0
is_open Rechecking = 0
is_open (Committing value) = 0

abbrev pub is_release : Work → ℕ
is_release (Releasing object) = 1
is_release work = 0

abbrev pub is_recheck : Work → ℕ
is_recheck Rechecking = 1
is_recheck work = 0

-- ---- the laws

-- an attempt that is alone is left only by its commit
abbrev pub AloneCommits : Type 0
AloneCommits =
    (shape : Shape) (generator : Lcg) (calls : List Made) (begin : Event) (before : List Event) →
    IsAlone shape generator calls begin before → IsUnmet shape begin.caller before →
    (local shape (all_events calls ++ begin ∷ before) begin.caller).phase ≡ Outside →
    (local shape (all_events calls ++ begin ∷ before) begin.caller).committed ≡ true

-- and once it was told to commit, it has committed
abbrev pub AloneEnds : Type 0
AloneEnds =
    (shape : Shape) (generator : Lcg) (call : Made) (calls : List Made) (begin : Event) (before : List Event)
    (value : ℕ → Val) → IsAlone shape generator (call ∷ calls) begin before →
    IsUnmet shape begin.caller before → call.work ≡ Committing value →
    (local shape (all_events (call ∷ calls) ++ begin ∷ before) begin.caller).committed ≡ true

-- without a step of another caller since the Begin a call on a live attempt answers only that it gave way for too
-- long
abbrev pub AloneAnswers : Type 0
AloneAnswers =
    (shape : Shape) (generator : Lcg) (call : Made) (calls : List Made) (begin : Event) (before : List Event)
    (again : Again) → IsAlone shape generator (call ∷ calls) begin before →
    (state_after shape (local shape (begin ∷ before) begin.caller) (all_events calls)).phase ≢ Outside →
    last_answer shape (local shape (begin ∷ before) begin.caller) generator call calls ≡ Some again →
    again ≡ Waited

-- an attempt that is alone takes no more steps than the prices of the calls on it, one for its Begin and three for
-- its commit
abbrev pub AloneBound : Type 0
AloneBound =
    (shape : Shape) (generator : Lcg) (calls : List Made) (begin : Event) (before : List Event) →
    IsAlone shape generator calls begin before → IsUnmet shape begin.caller before →
    1 + length (all_events calls) ≤ prices shape.manager calls + 4

-- the prices of calls by their counts
abbrev pub PricesByCount : Type 0
PricesByCount =
    (manager : Manager) (calls : List Made) →
    prices manager calls ≤ count is_open calls * (most_turns manager + 16) + count is_release calls
    + 2 * count is_recheck calls
