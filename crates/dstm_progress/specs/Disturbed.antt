-- Attempts that were disturbed, as a log tells.
use Rattle.std.specs.Prelude.{◌≡◌, ◌≢◌, ℕ, ◌+◌, ◌≤◌, ◌==◌, ◌&&◌, Bool, List, [], ◌∷◌, ◌++◌, if◌then◌else◌}
use Rattle.dstm_core.specs.Events.{Event}
use Rattle.dstm_core.specs.declared.shape.Manager.TheVariants.{Greedy}
use Rattle.dstm_core.specs.declared.shape.Shape.{Shape}
use Rattle.dstm_core.specs.Runs.{local}
use Rattle.dstm_core.specs.State.{LocalState}
use Rattle.dstm_order.specs.Efforts.{most_missed, most_patience}
use Rattle.dstm_order.specs.Passes.{is_miss}
use Rattle.dstm_progress.specs.Causes.{finds_stale, finds_aborted, gives_way}

-- an exchange that failed, those on the own status aside
abbrev pub fails : Shape → LocalState → Event → Bool
fails shape state event = is_miss event.kind event

-- How many events of attempt i of caller c pass a test. Attempt i of a caller is the one after whose Begin it has
-- begun i.
abbrev pub count_of : (Shape → LocalState → Event → Bool) → Shape → List Event → (c i : ℕ) → ℕ
count_of test shape [] c i = 0
count_of test shape (event ∷ before) c i =
    if (event.caller == c) && (((local shape before c).begun == i) && test shape (local shape before c) event)
    then count_of test shape before c i + 1
    else count_of test shape before c i

-- The attempt was DISTURBED: it became stale; or it found its own status aborted; or so many of its exchanges
-- failed; or, under Greedy, it gave way for so many turns.
pub data Disturbed (shape : Shape) (log : List Event) (c i : ℕ) : Type 0 where
  became_stale : 1 ≤ count_of finds_stale shape log c i → Disturbed shape log c i
  was_aborted : 1 ≤ count_of finds_aborted shape log c i → Disturbed shape log c i
  missed : most_missed ≤ count_of fails shape log c i → Disturbed shape log c i
  gave_way : shape.manager ≡ Greedy → most_patience ≤ count_of gives_way shape log c i → Disturbed shape log c i

-- another caller's event stands among these
pub record HasOther (c : ℕ) (events : List Event) : Type 0 where
  pub later : List Event
  pub event : Event
  pub before : List Event
  pub is : events ≡ later ++ event ∷ before
  pub other : event.caller ≢ c
