-- The examples are core runs.
use Rattle.std.proofs.Common.{◌∷◌, ◌≡◌, ◌≢◌, ◌<◌, List, [], ℕ, suc, zero, true, drop, inl, inr, refl, arith}
use Rattle.dstm_core.proofs.Base.{Core, Event, core, local}
use Rattle.dstm_order.specs.Drive.{nine, small, zeros}
use Rattle.dstm_order.proofs.Base.{Committing, Doing, Greedy, IsCall, Karma, Writing}
use Rattle.dstm_progress.specs.Alone.{IsAlone}
use Rattle.dstm_progress.specs.Example.{SomeAttempts, before, begun, begun_oldest, committed, newest, opened, or_event, the_calls}
use Rattle.dstm_progress.specs.Oldest.{IsOldest}
use Rattle.dstm_machines.proofs.Fitting.{fit, run_then}

-- events, the oldest first
abbrev oldest_first : List Event → List Event → List Event
oldest_first [] later = later
oldest_first (e ∷ es) later = oldest_first es (e ∷ later)

core_begun : Core (small Karma) begun
core_begun = run_then core (small Karma) [] (oldest_first (begun) []) tt (grind arith)

-- caller 1 has found the half done attempt, and waited for it
abbrev waited : List Event
waited = drop 8 opened

core_waited : Core (small Karma) waited
core_waited = run_then core (small Karma) begun (oldest_first (newest 8 waited) []) core_begun (grind arith)

core_opened : Core (small Karma) opened
core_opened = (
  (
    (
      (
        (
          (
            (
              (
                core_waited,
                fit refl (omega arith) (λ q. cc) (refl, (refl, refl), (refl, refl, refl, refl, tt), omega arith),
              ),
              fit refl (omega arith) (λ q. cc) (refl, (refl, refl), (refl, refl, refl), omega arith),
            ),
            fit refl (omega arith) (λ q. cc) (refl, (refl, refl), (refl, refl, omega arith), omega arith),
          ),
          fit refl (omega arith) (λ q. cc) (refl, (refl, refl), (refl, refl, refl, refl, refl), omega arith),
        ),
        fit refl (omega arith) (λ q. cc) (refl, (refl, refl), (refl, refl, refl, refl, refl, refl), omega arith),
      ),
      fit refl (omega arith) (λ q. cc) (refl, (refl, refl), (refl, refl), tt),
    ),
    fit refl (omega arith) (λ q. cc) (refl, (refl, refl), (refl, refl, refl, inl refl), omega arith),
  ),
  fit refl (omega arith) (λ q. cc) (refl, (refl, refl), (refl, inl refl, refl, refl), omega arith),
)

core_committed : Core (small Karma) committed
core_committed = (
  (
    (
      (
        (
          core_opened,
          fit refl (omega arith) (λ q. cc) (refl, (refl, refl), (inl refl, refl, omega arith, refl), omega arith),
        ),
        fit refl (omega arith) (λ q. cc) (refl, (refl, refl), (refl, refl, omega arith, refl), omega arith),
      ),
      fit refl (omega arith) (λ q. cc) (refl, (refl, refl), (inr (refl, refl), refl), omega arith),
    ),
    fit refl (omega arith) (λ q. cc) (refl, (refl, refl), (refl, refl), tt),
  ),
  fit refl (omega arith) (λ q. cc) (refl, (refl, refl), (refl, refl, inl refl), omega arith),
)

opens : IsCall (Doing (Writing 0)) (small Karma) (local (small Karma) begun 1) zeros (newest 16 opened)
opens = record { obeys = grind arith; done = refl }

commits : IsCall (Doing (Committing nine)) (small Karma) (local (small Karma) opened 1) zeros (newest 5 committed)
commits = record { obeys = grind arith; done = refl }

alone : IsAlone (small Karma) zeros the_calls (or_event begun) before
alone = record {
  core = core_committed;
  begins = refl;
  alone = grind arith;
  made = ((tt, opens), commits);
}

core_oldest : Core (small Greedy) begun_oldest
core_oldest = run_then core (small Greedy) [] (oldest_first (begun_oldest) []) tt (grind arith)

oldest : IsOldest (small Greedy) begun_oldest 1
oldest = record { live = refl; least = least }
  where
    least : (d : ℕ) → d < 2 → d ≢ 1 → (local (small Greedy) begun_oldest d).stands ≡ true →
        (local (small Greedy) begun_oldest 1).rank < (local (small Greedy) begun_oldest d).rank
    least zero b n st = omega arith
    least (suc zero) b n st = absurd (n refl)
    least (suc (suc d)) b n st = absurd (omega arith)

pub some_attempts : SomeAttempts
some_attempts = record {
  alone = record { alone = alone; unmet = inl (λ q. cc); steps = refl; commits = refl };
  oldest = record { core = core_oldest; oldest = oldest; live = refl };
}
