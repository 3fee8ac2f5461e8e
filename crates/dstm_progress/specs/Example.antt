-- An attempt that is alone and meets one that was left half done, and an attempt that begins as the oldest.
use Rattle.std.specs.Prelude.{◌≡◌, ℕ, ◌+◌, true, suc, zero, List, [], ◌∷◌, length}
use Rattle.dstm_core.specs.Events.{Event}
use Rattle.dstm_core.specs.declared.event.Kind.TheVariants.{Begin, Rank, Stamp}
use Rattle.dstm_core.specs.declared.shape.Manager.TheVariants.{Greedy, Karma}
use Rattle.dstm_core.specs.Runs.{Core, local}
use Rattle.dstm_order.specs.Drive.{calls, guest, makes, nine, opens_ranked, small, zeros}
use Rattle.dstm_order.specs.Tasks.Task.{Doing, Enrolling}
use Rattle.dstm_order.specs.Tasks.Work.{Committing, Writing}
use Rattle.dstm_progress.specs.Alone.{IsAlone, IsUnmet, Made, all_events}
use Rattle.dstm_progress.specs.Oldest.{IsOldest}

-- ---- alone

-- caller 0 stops after its Install, and caller 1 has enrolled and put the rank of its attempt
abbrev pub before : List Event
before = makes (small Karma) 1 Rank 0 (calls (small Karma) 1 Enrolling (guest Karma opens_ranked 7))

-- it begins
abbrev pub begun : List Event
begun = makes (small Karma) 1 Begin 0 before

-- opens the object for writing
abbrev pub opened : List Event
opened = calls (small Karma) 1 (Doing (Writing 0)) begun

-- and commits
abbrev pub committed : List Event
committed = calls (small Karma) 1 (Doing (Committing nine)) opened

-- the n newest events
abbrev pub newest : (n : ℕ) → List Event → List Event
newest zero log = []
newest (suc n) [] = []
newest (suc n) (event ∷ log) = event ∷ newest n log

abbrev pub the_calls : List Made
the_calls =
    record { work = Committing nine; events = newest 5 committed }
    ∷ record { work = Writing 0; events = newest 16 opened } ∷ []

abbrev pub or_event : List Event → Event
or_event [] = record {
  caller = 0;
  kind = Begin;
  place = 0;
  expected = 0;
  found = 0;
  put = 0;
}
or_event (event ∷ log) = event

-- an attempt can be alone beside one that was left half done. It waits, aborts that one and commits.
pub record SomeAlone : Type 0 where
  pub alone : IsAlone (small Karma) zeros the_calls (or_event begun) before
  pub unmet : IsUnmet (small Karma) 1 before
  pub steps : 1 + length (all_events the_calls) ≡ 22
  pub commits : (local (small Karma) committed 1).committed ≡ true

-- ---- the oldest

-- caller 1 draws the first stamp, but caller 0 begins first
abbrev pub stamped : List Event
stamped =
    makes (small Greedy) 1 Rank 0 (makes (small Greedy) 0 Begin 0 (makes (small Greedy) 0 Rank 1
    (makes (small Greedy) 0 Stamp 0 (makes (small Greedy) 1 Stamp 0 (calls (small Greedy) 1 Enrolling
    (calls (small Greedy) 0 Enrolling []))))))

abbrev pub begun_oldest : List Event
begun_oldest = makes (small Greedy) 1 Begin 0 stamped

-- an attempt can begin as the oldest beside another that is live
pub record SomeOldest : Type 0 where
  pub core : Core (small Greedy) begun_oldest
  pub oldest : IsOldest (small Greedy) begun_oldest 1
  pub live : (local (small Greedy) begun_oldest 0).stands ≡ true

pub record SomeAttempts : Type 0 where
  pub alone : SomeAlone
  pub oldest : SomeOldest
