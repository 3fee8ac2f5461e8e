-- Traces of the machine: what the words hold after some events. Each word holds 0 at first.
use Rattle.std.specs.Prelude.{ℕ, List}
pub use Rattle.dstm_machines.specs.Traces.{Access, Acts, IsPastOf, events_of}
use Rattle.dstm_machines.specs.Traces as traces
use Rattle.dstm_core.specs.declared.shape.Shape.{Shape}
use Rattle.dstm_core.specs.Events.{Event}
use Rattle.dstm_core.specs.Words.{Word, place}

-- what the word at a place holds: what the last event on it put, or 0
abbrev pub at : List Event → ℕ → ℕ
at trace p = traces.at (λ p. 0) trace p

-- what a word holds
abbrev pub word : Shape → List Event → Word → ℕ
word shape trace w = at trace (place shape w)
