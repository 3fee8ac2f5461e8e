-- Laws of callers whose own events are those of calls.
use Rattle.std.specs.Prelude.{ℕ, ◌≤◌, List, length}
use Rattle.dstm_machines.specs.Traces.{events_of}
use Rattle.dstm_tl2.specs.Rules.{Event}
use Rattle.dstm_tl2.specs.State.{first}
use Rattle.dstm_tl2.specs.Words.{Table}
use Rattle.dstm_tl2_order.specs.Made.{ByCalls, LocksItsWrites, prices}

-- A LIFE IS BOUNDED: a caller has made at most as many events as the prices of its calls come to
abbrev pub LivesAreBounded : Type 0
LivesAreBounded =
    (table : Table) (log : List Event) (c : ℕ) (by : ByCalls LocksItsWrites table log c) →
    length (events_of c log) ≤ prices table first by.calls
