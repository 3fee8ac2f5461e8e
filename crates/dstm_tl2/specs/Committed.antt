-- What each caller has committed. The history of a run names neither callers nor numbers; here each entry has
-- both, and the same entries are told from one caller's own events.
--
-- Events and committed attempts have the newest first.
use Rattle.std.specs.Prelude.{ℕ, ◌==◌, ◌&&◌, Bool, not, List, ◌∷◌}
pub use Rattle.dstm_model.specs.Answers.{Committed, by_caller}
use Rattle.dstm_machines.specs.Histories.{gathered}
use Rattle.dstm_machines.specs.Histories as histories
use Rattle.dstm_tl2.specs.Histories.{commits_at, entry_at, entry_of, will_of}
use Rattle.dstm_tl2.specs.Rules.{Event}
use Rattle.dstm_tl2.specs.Runs.{local}
use Rattle.dstm_tl2.specs.State.{LocalState, is_valid, or_writes, or_zero}
use Rattle.dstm_tl2.specs.Words.{Table}

-- ---- the history, with the caller and the number of each entry

-- the attempts that commit, as `will` tells by their numbers, and have their Draw among some events
abbrev pub committed : Table → (ℕ → Bool) → List Event → List Committed
committed table will before = histories.committed (commits_at will) (entry_at table) before

-- the attempts that commit in a run
abbrev pub committed_in : Table → List Event → List Committed
committed_in table run = committed table (will_of table run) run

-- ---- the same, told from one caller's own events

-- with this event of caller c its attempt has made its last good Check, or its Draw where nothing was to be checked
abbrev pub commits : Table → ℕ → Event → List Event → Bool
commits table c event before =
    (event.caller == c) && (is_valid (local table (event ∷ before) c) && not (is_valid (local table before c)))

abbrev pub attempt_of : ℕ → LocalState → Committed
attempt_of c state = record {
  caller = c;
  number = or_zero state.drawn;
  entry = entry_of state (or_writes state.writes);
}

-- the attempts that a caller has committed, told from its own events
abbrev pub done_by : Table → List Event → ℕ → List Committed
done_by table before c =
    gathered (commits table c) (λ event before. attempt_of c (local table (event ∷ before) c)) before
