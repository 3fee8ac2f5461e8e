-- The laws of why attempts are left, and of what stands of them.
--
-- A run has its newest event first: `before` is a prefix of the run `later ++ before`.
use Rattle.std.specs.Prelude.{None, ◌≡◌, ◌≢◌, ℕ, ◌≤◌, ◌<◌, Bool, true, false, List, ◌∷◌, ◌++◌, Some, is_some, [], ◌⊎◌, ◌+◌}
use Rattle.dstm_opacity.specs.Committed.{attempt_of, done_by}
use Rattle.dstm_core.specs.Events.{Event}
use Rattle.dstm_core.specs.declared.event.Kind.TheVariants.{Begin}
use Rattle.dstm_core.specs.declared.shape.Manager.TheVariants.{Greedy}
use Rattle.dstm_core.specs.declared.shape.Shape.{Shape}
use Rattle.dstm_core.specs.declared.state.Phase.TheVariants.{Outside}
use Rattle.dstm_core.specs.declared.status.Status.TheVariants as status
use Rattle.dstm_core.specs.Runs.{Core, local}
use Rattle.dstm_core.specs.State.{LocalState, first}
use Rattle.dstm_core.specs.Traces.{events_of}
use Rattle.dstm_core.specs.Words.{code_of}
use Rattle.dstm_model.specs.declared.value.Val.{Val}
use Rattle.dstm_order.specs.Beginnings.{IsClear}
use Rattle.dstm_order.specs.Calls.{IsCall, answer_of, newest_of, state_after}
use Rattle.dstm_order.specs.declared.again.Again.{Again}
use Rattle.dstm_order.specs.declared.again.Again.TheVariants.{Waited}
use Rattle.dstm_order.specs.Efforts.{most_missed, most_patience}
use Rattle.dstm_order.specs.Order.{has_begun, is_spent}
use Rattle.dstm_order.specs.Passes.{misses}
use Rattle.dstm_order.specs.Tasks.{Task, Work}
use Rattle.dstm_order.specs.Tasks.Task.{Beginning, Doing, Leaving}
use Rattle.dstm_order.specs.Tasks.Work.{Committing}
use Rattle.dstm_progress.specs.Alone.{AreCalls, Made, all_events, last_answer}
use Rattle.dstm_progress.specs.Oldest.{AreMade}
use Rattle.rand_pcg.specs.Lcg.{Lcg}
use Rattle.dstm_progress.specs.Causes.{Causes, gives_way}
use Rattle.dstm_progress.specs.Disturbed.{Disturbed, HasOther, count_of}
use Rattle.dstm_progress.specs.Ends.{Begins, BeginsNone, IsCallIn, IsCurrent, StaysAt, ended_as}

-- ---- why an attempt is left

-- EVERY AGAIN HAS ITS CAUSE in the events of the call that gave it.
abbrev pub EveryAgainHasItsCause : Type 0
EveryAgainHasItsCause =
    (work : Work) (shape : Shape) (c : ℕ) (generator : Lcg) (events before run : List Event) (again : Again) →
    IsCallIn (Doing work) shape c generator events before run → IsCurrent (local shape before c) →
    answer_of (Doing work) shape (local shape before c) generator events ≡ Some again →
    Causes again shape (local shape before c) events

-- a cause in the events of a call on attempt i is a disturbance of it in the log
abbrev pub ACauseDisturbs : Type 0
ACauseDisturbs =
    (again : Again) (shape : Shape) (c i : ℕ) (events before run : List Event) →
    events_of c run ≡ events ++ events_of c before →
    (local shape before c).begun ≡ i → (local shape run c).begun ≡ i →
    Causes again shape (local shape before c) events → Disturbed shape run c i

-- so the attempt was disturbed
abbrev pub EveryAgainWasDisturbed : Type 0
EveryAgainWasDisturbed =
    (work : Work) (shape : Shape) (c : ℕ) (generator : Lcg) (events before run : List Event) (again : Again) →
    IsCallIn (Doing work) shape c generator events before run → IsCurrent (local shape before c) →
    answer_of (Doing work) shape (local shape before c) generator events ≡ Some again →
    Disturbed shape run c (local shape run c).begun

-- what was disturbed stays so
abbrev pub DisturbedStays : Type 0
DisturbedStays =
    (shape : Shape) (later before : List Event) (c i : ℕ) → Disturbed shape before c i →
    Disturbed shape (later ++ before) c i

-- A DISTURBANCE IS ANOTHER'S. An attempt that was disturbed shows that another caller has made a step since its Begin, but
-- for one that under Greedy gave way for so many turns: that may be to an attempt that had stopped before.
abbrev pub DisturbedByAnother : Type 0
DisturbedByAnother =
    (shape : Shape) (later : List Event) (begin : Event) (before : List Event) →
    Core shape (later ++ begin ∷ before) → begin.kind ≡ Begin →
    (shape.manager ≡ Greedy → count_of gives_way shape (later ++ begin ∷ before) begin.caller
    (local shape (begin ∷ before) begin.caller).begun < most_patience) →
    Disturbed shape (later ++ begin ∷ before) begin.caller (local shape (begin ∷ before) begin.caller).begun →
    HasOther begin.caller later

-- And any attempt that was disturbed shows that another caller has made a step,
abbrev pub DisturbedBesideAnother : Type 0
DisturbedBesideAnother =
    (shape : Shape) (log : List Event) (c i : ℕ) → Core shape log → Disturbed shape log c i → HasOther c log

-- so that on a table for one caller none was
abbrev pub NoneIsDisturbedAlone : Type 0
NoneIsDisturbedAlone =
    (shape : Shape) (log : List Event) (c i : ℕ) → Core shape log → Disturbed shape log c i → 1 < shape.callers

-- a call keeps the attempt that it works on the last one
abbrev pub EveryCallKeepsItsAttempt : Type 0
EveryCallKeepsItsAttempt =
    (work : Work) (shape : Shape) (c : ℕ) (generator : Lcg) (events before run : List Event) →
    IsCallIn (Doing work) shape c generator events before run →
    (local shape run c).begun ≡ (local shape before c).begun

-- A call that answers Again has left its attempt, and its status is aborted and stays so.
abbrev pub EveryAgainIsAborted : Type 0
EveryAgainIsAborted =
    (work : Work) (shape : Shape) (c : ℕ) (generator : Lcg) (events before run : List Event) (again : Again) →
    IsCallIn (Doing work) shape c generator events before run → (local shape before c).phase ≢ Outside →
    answer_of (Doing work) shape (local shape before c) generator events ≡ Some again →
    ((local shape run c).phase ≡ Outside) × StaysAt shape run c (code_of status.Aborted)

-- A call that is to commit and does not answer Again has committed: its attempt has ended, and its status is committed
-- and stays so.
abbrev pub EveryCommitEnds : Type 0
EveryCommitEnds =
    (value : ℕ → Val) (shape : Shape) (c : ℕ) (generator : Lcg) (events before run : List Event) →
    IsCallIn (Doing (Committing value)) shape c generator events before run → (local shape before c).phase ≢ Outside →
    answer_of (Doing (Committing value)) shape (local shape before c) generator events ≡ None →
    ((local shape run c).phase ≡ Outside) × ((local shape run c).committed ≡ true)
    × StaysAt shape run c (code_of status.Committed)

-- this holds of each call that answers Again: of its shape, its attempt's Begin, the events since that, and the answer
abbrev pub OfEveryAgain : (Shape → Event → List Event → Again → Type 0) → Type 0
OfEveryAgain Holds =
    (shape : Shape) (generator : Lcg) (call : Made) (calls : List Made) (later : List Event) (begin : Event)
    (before : List Event) (again : Again) →
    Core shape (later ++ begin ∷ before) → begin.kind ≡ Begin →
    AreMade shape generator call calls later begin before →
    last_answer shape (local shape (begin ∷ before) begin.caller) generator call calls ≡ Some again →
    Holds shape begin later again

-- Any answer but Waited shows that another caller has made a step since the Begin.
abbrev pub EveryOtherAgainShowsAnother : Type 0
EveryOtherAgainShowsAnother = OfEveryAgain (λ shape begin later again. again ≢ Waited → HasOther begin.caller later)

-- Any answer at all shows that the table has another caller.
abbrev pub EveryAgainHasAnother : Type 0
EveryAgainHasAnother = OfEveryAgain (λ shape begin later again. 1 < shape.callers)

-- A call that commits adds its attempt to what its caller has committed,
abbrev pub EveryCommitIsAdded : Type 0
EveryCommitIsAdded =
    (work : Work) (shape : Shape) (start : List Val) (c : ℕ) (generator : Lcg) (events later before : List Event) →
    IsCallIn (Doing work) shape c generator events before (later ++ before) → (local shape before c).phase ≢ Outside →
    (local shape (later ++ before) c).committed ≡ true →
    done_by shape start (later ++ before) (later ++ before) c
    ≡ attempt_of shape start (later ++ before) c (local shape (later ++ before) c) ∷ done_by shape start before before c

-- and any other call adds nothing to it
abbrev pub EveryOtherCallAddsNothing : Type 0
EveryOtherCallAddsNothing =
    (work : Work) (shape : Shape) (start : List Val) (c : ℕ) (generator : Lcg) (events later before : List Event) →
    IsCallIn (Doing work) shape c generator events before (later ++ before) →
    (local shape (later ++ before) c).committed ≡ false →
    done_by shape start (later ++ before) (later ++ before) c ≡ done_by shape start before before c

-- ---- calls that have not left their attempt

-- a call that has not left its attempt found no read stale, and too few of its exchanges failed for that
abbrev pub EveryCallThatStays : Type 0
EveryCallThatStays =
    (work : Work) (shape : Shape) (state : LocalState) (generator : Lcg) (events : List Event) →
    IsCall (Doing work) shape state generator events →
    (state_after shape state events).phase ≢ Outside →
    IsCurrent (state_after shape state events) × (misses events < most_missed)

-- so an attempt that is under way after the calls on it is current
abbrev pub AttemptsStayCurrent : Type 0
AttemptsStayCurrent =
    (shape : Shape) (generator : Lcg) (calls : List Made) (begin : Event) (before run : List Event) →
    begin.kind ≡ Begin →
    events_of begin.caller run ≡ all_events calls ++ events_of begin.caller (begin ∷ before) →
    AreCalls shape (local shape (begin ∷ before) begin.caller) generator calls →
    (local shape run begin.caller).phase ≢ Outside → IsCurrent (local shape run begin.caller)

-- ---- what stands of an attempt

-- AN ATTEMPT THAT HAS ENDED is committed if its Commit succeeded, and else aborted. So it stays in every later run.
abbrev pub EveryEndStays : Type 0
EveryEndStays =
    (shape : Shape) (run : List Event) (c : ℕ) → (local shape run c).phase ≡ Outside →
    1 ≤ (local shape run c).begun → StaysAt shape run c (ended_as (local shape run c).committed)

-- a caller begins no more attempts than its table has for it, and who has enrolled is a caller of the table
abbrev pub CallersAreInRange : Type 0
CallersAreInRange =
    (shape : Shape) (run : List Event) (c : ℕ) → Core shape run →
    ((local shape run c).begun ≤ shape.attempts)
    × (is_some (local shape run c).number ≡ true → (c < shape.callers) × ((local shape run c).number ≡ Some c))

-- a caller is spent where it has begun all its attempts, or has fewer locators left than there are objects
abbrev pub TheSpentAreUsedUp : Type 0
TheSpentAreUsedUp =
    (shape : Shape) (run : List Event) (c : ℕ) → Core shape run → is_spent shape (local shape run c) ≡ true →
    ((local shape run c).begun ≡ shape.attempts)
    ⊎ (shape.locators < (local shape run c).installed + shape.objects)

-- A call that is to begin an attempt has begun one, or the caller is spent.
abbrev pub EveryBeginning : Type 0
EveryBeginning =
    (fresh : Bool) (shape : Shape) (c : ℕ) (generator : Lcg) (events before run : List Event) →
    IsCallIn (Beginning fresh) shape c generator events before run →
    (has_begun (newest_of events) ≡ true → Begins (local shape before c) (local shape run c))
    × (has_begun (newest_of events) ≡ false → BeginsNone shape (local shape before c) (local shape run c))

-- BETWEEN CALLS no stamp that was drawn, and no rank that was stored, is left for an attempt that is still to begin: so
-- it is before the first call, and so each call leaves it.
abbrev pub NothingAtFirst : Type 0
NothingAtFirst = IsClear first

abbrev pub EveryCallLeavesNothing : Type 0
EveryCallLeavesNothing =
    (task : Task) (shape : Shape) (c : ℕ) (generator : Lcg) (events before run : List Event) →
    IsCallIn task shape c generator events before run → IsClear (local shape before c) → IsClear (local shape run c)

-- A call that is to end an attempt has left it, and begins none. Where none is under way it does nothing.
abbrev pub EveryLeaving : Type 0
EveryLeaving =
    (shape : Shape) (c : ℕ) (generator : Lcg) (events before run : List Event) →
    IsCallIn Leaving shape c generator events before run →
    ((local shape run c).phase ≡ Outside) × ((local shape run c).begun ≡ (local shape before c).begun)
    × ((local shape before c).phase ≡ Outside → events ≡ [])
