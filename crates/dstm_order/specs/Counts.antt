-- What a caller counts, over its own events: steps, turns of waiting and enemies aborted since its last Begin.
use Rattle.std.specs.Prelude.{ℕ, ◌+◌, ◌==◌, Bool, true, false, List, [], ◌∷◌, if◌then◌else◌}
use Rattle.dstm_core.specs.Events.{Event}
use Rattle.dstm_core.specs.declared.event.Kind.{Kind}
use Rattle.dstm_core.specs.declared.event.Kind.TheVariants.{Begin, Kill}
use Rattle.dstm_core.specs.declared.shape.Shape.{Shape}
use Rattle.dstm_core.specs.Runs.{local}
use Rattle.dstm_core.specs.State.{LocalState}
use Rattle.dstm_order.specs.Efforts.{is_turn}

pub record Counts : Type 0 where
  pub steps : ℕ
  pub turns : ℕ
  pub kills : ℕ

abbrev pub no_counts : Counts
no_counts = record { steps = 0; turns = 0; kills = 0 }

-- a Kill that succeeded
abbrev pub is_kill : Kind → Event → Bool
is_kill Kill event = event.found == event.expected
is_kill kind event = false

abbrev pub one_if : Bool → ℕ
one_if true = 1
one_if false = 0

-- one event more, in an attempt or after it
abbrev pub counted : Kind → LocalState → Counts → Event → Counts
counted kind state counts event = record {
  steps = counts.steps + 1;
  turns = counts.turns + one_if (is_turn kind state);
  kills = counts.kills + one_if (is_kill kind event);
}

-- Begin is the first event that counts; before the first Begin none does
abbrev pub counts_after : Kind → LocalState → Counts → Event → Counts
counts_after Begin state counts event = record { steps = 1; turns = 0; kills = 0 }
counts_after kind state counts event = if state.begun == 0 then counts else counted kind state counts event

-- the counts of caller c after a run
abbrev pub counts_of : Shape → List Event → ℕ → Counts
counts_of shape [] c = no_counts
counts_of shape (event ∷ before) c =
    if event.caller == c
    then counts_after event.kind (local shape before c) (counts_of shape before c) event
    else counts_of shape before c
