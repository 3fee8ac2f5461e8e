-- The calls that a caller made between two moments.
use Rattle.std.specs.Prelude.{◌≡◌, ℕ, ◌+◌, List, [], ◌∷◌, ◌++◌, if◌then◌else◌}
use Rattle.dstm_core.specs.Events.{Event}
use Rattle.dstm_core.specs.State.{LocalState}
use Rattle.dstm_core.specs.Traces.{events_of}
use Rattle.dstm_order.specs.Tasks.{Task}
use Rattle.dstm_engine.specs.Callers.{Called, shape_of, state}
use Rattle.dstm_order.specs.Made.{AreMade, Call, events_in, generator_by}
use Rattle.dstm_progress.specs.Lives.{lets_go}

-- the caller's own events since are those of calls, made one after the other with its generator
pub record Makes {L : Type 0} (May : LocalState → Task → Type 0) (k n : Called L) : Type 0 where
  pub calls : List Call
  pub own : events_of n.number n.log ≡ events_in calls ++ events_of k.number k.log
  pub made : AreMade (shape_of k) (state k) k.generator May calls
  pub generator : n.generator ≡ generator_by (shape_of k) (state k) k.generator calls
  pub same : (n.home ≡ k.home) × (n.number ≡ k.number)

-- how many of some events let a read go
abbrev pub count_let_go : List Event → ℕ
count_let_go [] = 0
count_let_go (event ∷ events) = if lets_go event.kind then count_let_go events + 1 else count_let_go events

-- how many reads the caller has let go so far
abbrev pub let_go : {L : Type 0} → Called L → ℕ
let_go k = count_let_go (events_of k.number k.log)
