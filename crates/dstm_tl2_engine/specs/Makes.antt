-- The calls that a caller made between two moments.
use Rattle.std.specs.Prelude.{◌≡◌, List, ◌++◌}
use Rattle.dstm_machines.specs.Traces.{events_of}
use Rattle.dstm_tl2.specs.State.{LocalState}
use Rattle.dstm_tl2_order.specs.Made.{AreMade, Call, events_in}
use Rattle.dstm_tl2_order.specs.Tasks.{Task}
use Rattle.dstm_tl2_engine.specs.Callers.{TlCalled, state, table_of_caller}

-- the caller's own events since are those of calls, made one after the other
pub record Makes {L : Type 0} (May : LocalState → Task → Type 0) (k n : TlCalled L) : Type 0 where
  pub calls : List Call
  pub own : events_of n.number n.log ≡ events_in calls ++ events_of k.number k.log
  pub made : AreMade (table_of_caller k) (state k) May calls
  pub same : (n.home ≡ k.home) × (n.number ≡ k.number)
