-- An attempt under DSTM in which no other caller makes a step, as a record tells of it.
use Rattle.std.specs.Prelude.{◌≡◌, ℕ, ◌+◌, ◌*◌, ◌≤◌, true, List, [], ◌∷◌, ◌++◌, length}
use Rattle.dstm_machines.specs.Traces.{events_of}
use Rattle.dstm_core.specs.Events.{Event}
use Rattle.dstm_core.specs.Runs.{local}
use Rattle.dstm_core.specs.declared.event.Kind.TheVariants.{Begin}
use Rattle.dstm_core.specs.declared.shape.Manager.{Manager}
use Rattle.dstm_core.specs.declared.shape.Shape.{Shape}
use Rattle.dstm_core.specs.declared.state.Phase.TheVariants.{Outside}
use Rattle.dstm_managers.specs.Meetings.{most_turns}
use Rattle.dstm_order.specs.Made.{Call, events_in}
use Rattle.dstm_order.specs.Tasks.Task.{Doing}
use Rattle.dstm_progress.specs.Alone.{AreOf, Made, all_events, count, is_open, is_recheck, is_release}

-- calls on an attempt, as a caller has made them
abbrev pub as_calls : List Made → List Call
as_calls [] = []
as_calls (made ∷ on) = record { task = Doing made.work; events = made.events } ∷ as_calls on

-- A caller has made these calls, the newest first. One of them begins an attempt with its newest event, those on the attempt
-- follow, and since the attempt began they have made all events of the log.
pub record WasAlone (shape : Shape) (log : List Event) (c : ℕ) (calls : List Call) (on : List Made) : Type 0 where
  pub later : List Call
  pub beginning : Call
  pub earlier : List Call
  pub are : calls ≡ later ++ (as_calls on ++ beginning ∷ earlier)
  pub begin : Event
  pub rest : List Event
  pub newest : beginning.events ≡ begin ∷ rest
  pub begins : begin.kind ≡ Begin
  -- where its Begin stands in the log
  pub since : List Event
  pub before : List Event
  pub log_is : log ≡ since ++ (all_events on ++ begin ∷ before)
  pub caller : begin.caller ≡ c
  pub own : events_of c before ≡ rest ++ events_in earlier
  pub alone : AreOf c (all_events on)

-- the calls that took a step
abbrev pub with_step : List Event → Made → List Made → List Made
with_step [] call calls = calls
with_step (event ∷ events) call calls = call ∷ calls

abbrev pub stepping : List Made → List Made
stepping [] = []
stepping (call ∷ calls) = with_step call.events call (stepping calls)

-- the most steps of an attempt that is alone, by the counts of the calls on it
abbrev pub most_steps : Manager → List Made → ℕ
most_steps manager on =
    count is_open on * (most_turns manager + 16) + count is_release on + 2 * count is_recheck on + 4

-- it is left by its commit only, and it takes few steps, whatever calls took none
pub record IsBoundedAlone (shape : Shape) (run : List Event) (c : ℕ) (on : List Made) : Type 0 where
  pub left : (local shape run c).phase ≡ Outside → (local shape run c).committed ≡ true
  pub steps : 1 + length (all_events on) ≤ most_steps shape.manager (stepping on)
