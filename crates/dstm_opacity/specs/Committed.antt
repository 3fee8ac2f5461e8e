-- What each caller has committed. The history of a run names neither callers nor numbers; here each entry has
-- both, and the same entries are told from one caller's own events.
--
-- Events and committed attempts have the newest first.
use Rattle.std.specs.Prelude.{ℕ, ◌==◌, ◌&&◌, Bool, true, false, List}
pub use Rattle.dstm_model.specs.Answers.{Committed, by_caller}
use Rattle.dstm_machines.specs.Histories.{gathered}
use Rattle.dstm_machines.specs.Histories as histories
use Rattle.dstm_model.specs.declared.value.Val.{Val}
use Rattle.dstm_core.specs.Events.{Event}
use Rattle.dstm_core.specs.declared.event.Kind.{Kind}
use Rattle.dstm_core.specs.declared.event.Kind.TheVariants.{Commit}
use Rattle.dstm_core.specs.declared.shape.Shape.{Shape}
use Rattle.dstm_core.specs.declared.status.Status.TheVariants as status
use Rattle.dstm_core.specs.Histories.{commits_at, entry_at, entry_of, will_of}
use Rattle.dstm_core.specs.Runs.{local}
use Rattle.dstm_core.specs.State.{LocalState, or_zero}
use Rattle.dstm_core.specs.Words.{code_of}

-- ---- the history, with the caller and the number of each entry

-- the attempts that commit, as `will` tells, and have their Draw among some events
abbrev pub committed : Shape → List Val → (ℕ → Bool) → List Event → List Event → List Committed
committed shape start will run before = histories.committed (commits_at shape will) (entry_at shape start run) before

-- the attempts that commit in a run
abbrev pub committed_in : Shape → List Val → List Event → List Committed
committed_in shape start run = committed shape start (will_of shape run) run run

-- ---- the same, told from one caller's own events

abbrev pub is_commit : Kind → Bool
is_commit Commit = true
is_commit kind = false

-- a Commit that succeeded
abbrev pub has_committed : Event → Bool
has_committed event = is_commit event.kind && (event.found == code_of status.Validating)

-- the attempt that a caller has drawn a number for, by its state
abbrev pub attempt_of : Shape → List Val → List Event → ℕ → LocalState → Committed
attempt_of shape start run c state = record {
  caller = c;
  number = or_zero state.drawn;
  entry = entry_of shape start run state;
}

-- the event is a Commit of caller c that succeeded
abbrev pub commits_by : ℕ → Event → List Event → Bool
commits_by c event before = (event.caller == c) && has_committed event

-- the attempts that a caller has committed by its own Commits; the run tells what the versions hold
abbrev pub done_by : Shape → List Val → List Event → List Event → ℕ → List Committed
done_by shape start run before c =
    gathered (commits_by c) (λ event before. attempt_of shape start run c (local shape before c)) before
