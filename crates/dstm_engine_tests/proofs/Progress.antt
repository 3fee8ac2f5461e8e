-- The runs are core runs, and what they show.
use Rattle.std.proofs.Common.{◌∷◌, ◌≡◌, ◌≢◌, ◌<◌, ◌++◌, List, [], ℕ, suc, zero, true, drop, reverse, refl, arith}
use Rattle.dstm_core.proofs.Base.{Core, Event, core, local}
use Rattle.dstm_core.specs.declared.shape.Manager.TheVariants.{Greedy}
use Rattle.dstm_machines.proofs.Fitting.{run_then}
use Rattle.dstm_machines.specs.Traces.{continued}
use Rattle.dstm_order.specs.Drive.{small}
use Rattle.dstm_progress.specs.Oldest.{IsOldest}
use Rattle.dstm_progress.specs.Example.{newest, or_event}
use Rattle.dstm_progress.specs.Overtaken.{opens}
use Rattle.dstm_engine_tests.specs.Progress.{OnlyLiveOnesCount, StandsAtItsObject, second_begun}

core_begun : Core (small Greedy) second_begun
core_begun = run_then core (small Greedy) [] (reverse second_begun) tt (grind arith)

oldest : IsOldest (small Greedy) second_begun 1
oldest = record { live = refl; least = least }
  where
    least : (d : ℕ) → d < 2 → d ≢ 1 → (local (small Greedy) second_begun d).stands ≡ true →
        (local (small Greedy) second_begun 1).rank < (local (small Greedy) second_begun d).rank
    least zero b n st = cc
    least (suc zero) b n st = absurd (n refl)
    least (suc (suc d)) b n st = absurd (omega arith)

pub only_live_ones_count : OnlyLiveOnesCount
only_live_ones_count = record {
  core = core_begun;
  less = omega arith;
  over = refl;
  oldest = oldest;
}

-- the events of the call
abbrev found : List Event
found = continued [] opens

-- none of its two events is at the place of object 1
nowhere :
    (later : List Event) (event : Event) (before : List Event) → found ≡ later ++ event ∷ before →
    event.place ≡ 1 → ⊥
nowhere [] event before whole at = cc
nowhere (quit ∷ []) event before whole at = cc
nowhere (quit ∷ look ∷ []) event before whole at = cc
nowhere (quit ∷ look ∷ one ∷ later) event before whole at = cc

pub a_cause_stands_at_its_object : StandsAtItsObject
a_cause_stands_at_its_object = record {
  cause = record {
    later = newest 1 found;
    event = or_event (drop 1 found);
    before = [];
    whole = refl;
    passes = refl;
    at = refl;
  };
  no_other = λ cause. nowhere cause.later cause.event cause.before cause.whole cause.at;
}
