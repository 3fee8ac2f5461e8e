-- How an attempt ended under DSTM, as the log of its table tells it. Attempt i of a caller is the one after whose Begin it has
-- begun i: its attempts are numbered from 1.
use Rattle.std.specs.Prelude.{◌≡◌, ◌⊎◌, ℕ, ◌+◌, ◌-◌, ◌*◌, ◌<◌, ◌≤◌, ◌==◌, ◌&&◌, Bool, true, false, List, [], ◌∷◌, if◌then◌else◌}
use Rattle.dstm_model.specs.declared.value.Val.{Val}
use Rattle.dstm_progress.specs.Disturbed.{count_of}
use Rattle.dstm_core.specs.Events.{Event}
use Rattle.dstm_core.specs.declared.event.Kind.{Kind}
use Rattle.dstm_core.specs.declared.event.Kind.TheVariants.{Quit}
use Rattle.dstm_core.specs.declared.shape.Shape.{Shape}
use Rattle.dstm_core.specs.Histories.{seen, will_of}
use Rattle.dstm_core.specs.Runs.{local}
use Rattle.dstm_core.specs.State.{LocalState}
use Rattle.dstm_core.specs.Traces.{word}
use Rattle.dstm_core.specs.Words.{code_of}
use Rattle.dstm_core.specs.Words.Word.{StatusWord}
use Rattle.dstm_core.specs.declared.status.Status.TheVariants as status
use Rattle.dstm_engine.specs.Attempts.{completes_pass, looks_at_object}

-- attempt i of caller c has committed: its status is committed in the end
abbrev pub HasCommitted : Shape → List Event → (c i : ℕ) → Type 0
HasCommitted shape log c i = will_of shape log (c * shape.attempts + (i - 1)) ≡ true

-- it was aborted: so is its status in the end
abbrev pub WasAborted : Shape → List Event → (c i : ℕ) → Type 0
WasAborted shape log c i = word shape log (StatusWord (c * shape.attempts + (i - 1))) ≡ code_of status.Aborted

abbrev pub is_quit : Kind → Bool
is_quit Quit = true
is_quit kind = false

abbrev pub quits : Shape → LocalState → Event → Bool
quits shape state event = is_quit event.kind

-- what the newest sight of attempt i of caller c covers: the whole log tells the values
abbrev pub seen_last : Shape → List Val → List Event → List Event → (c i : ℕ) → List (ℕ × Val)
seen_last shape start log [] c i = []
seen_last shape start log (event ∷ before) c i =
    if (event.caller == c) && (((local shape before c).begun == i) && completes_pass shape (local shape before c) event)
    then seen shape start log before c
    else seen_last shape start log before c i

-- the attempt had at most so many sights beside one for each look at an object
abbrev pub HasFewSights : (more : ℕ) → Shape → List Event → (c i : ℕ) → Type 0
HasFewSights more shape log c i =
    count_of completes_pass shape log c i ≤ count_of looks_at_object shape log c i + more

-- the attempt was given up after it had made sure so many times that what it had read stands, and not more often: it had so
-- many sights at least, and at most so many beside one for each look at an object
pub record WasGivenUpAfter (rechecks : ℕ) (shape : Shape) (log : List Event) (c i : ℕ) : Type 0 where
  pub sights : rechecks ≤ count_of completes_pass shape log c i
  pub no_more : HasFewSights rechecks shape log c i
  pub quit : 1 ≤ count_of quits shape log c i

-- the caller has no attempt left, or too few locators for another one
abbrev pub IsSpent : Shape → LocalState → Type 0
IsSpent shape state = (state.begun ≡ shape.attempts) ⊎ (shape.locators < state.installed + shape.objects)
