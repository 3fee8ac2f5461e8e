-- An attempt that begins as the oldest beside a caller of less rank that is not live, and a Stale with its one cause.
use Rattle.std.specs.Prelude.{◌≡◌, ◌<◌, true, false, List, []}
use Rattle.dstm_machines.specs.Traces.{continued}
use Rattle.dstm_core.specs.Events.{Event}
use Rattle.dstm_core.specs.declared.shape.Manager.TheVariants.{Greedy}
use Rattle.dstm_core.specs.Runs.{Core, local}
use Rattle.dstm_order.specs.Drive.{calls, nine, small, two}
use Rattle.dstm_order.specs.Tasks.Task.{Beginning, Doing, Enrolling}
use Rattle.dstm_order.specs.Tasks.Work.{Committing}
use Rattle.dstm_order.specs.declared.again.Again.TheVariants.{Stale}
use Rattle.dstm_progress.specs.Causes.{Causes}
use Rattle.dstm_progress.specs.Oldest.{IsOldest}
use Rattle.dstm_progress.specs.Overtaken.{installed, opens}

-- caller 0 begins a transaction and commits it
abbrev pub first_committed : List Event
first_committed =
    calls (small Greedy) 0 (Doing (Committing nine)) (calls (small Greedy) 0 (Beginning true)
    (calls (small Greedy) 1 Enrolling (calls (small Greedy) 0 Enrolling [])))

-- then caller 1 begins the next one
abbrev pub second_begun : List Event
second_begun = calls (small Greedy) 1 (Beginning true) first_committed

-- it is the oldest, though the rank of caller 0 is less
pub record OnlyLiveOnesCount : Type 0 where
  pub core : Core (small Greedy) second_begun
  pub less : (local (small Greedy) second_begun 0).rank < (local (small Greedy) second_begun 1).rank
  pub over : (local (small Greedy) second_begun 0).stands ≡ false
  pub oldest : IsOldest (small Greedy) second_begun 1

-- the call that found the read of object 0 stale has the cause of that, and has none of a Stale of the other object
pub record StandsAtItsObject : Type 0 where
  pub cause : Causes (Stale 0) two (local two installed 0) (continued [] opens)
  pub no_other : Causes (Stale 1) two (local two installed 0) (continued [] opens) → ⊥
