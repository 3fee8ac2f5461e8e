-- Core runs: the runs of the machine of the memory.
use Rattle.std.specs.Prelude.{◌≡◌, ℕ, List}
use Rattle.dstm_machines.specs.Machines as machines
use Rattle.dstm_machines.specs.Machines.{Machine}
use Rattle.dstm_core.specs.declared.event.Kind.{Kind}
use Rattle.dstm_core.specs.declared.event.Kind.TheVariants.{Enrol}
use Rattle.dstm_core.specs.declared.shape.Shape.{Shape}
use Rattle.dstm_core.specs.Events.{Event}
use Rattle.dstm_core.specs.Rules.{after, AllowedAs}
use Rattle.dstm_core.specs.State.{LocalState, first}

abbrev pub core : Machine Kind Shape LocalState
core = record {
  initial = λ shape p. 0;
  callers = λ shape. shape.callers;
  first = first;
  Enrols = λ kind. kind ≡ Enrol;
  Allows = λ shape state event. AllowedAs event.kind shape state event;
  after = λ shape state event. after event.kind shape state event;
}

-- a caller's state after its own events of a trace
abbrev pub local : Shape → List Event → ℕ → LocalState
local shape trace c = machines.local core shape trace c

-- the event may come next
abbrev pub Fits : Shape → List Event → Event → Type 0
Fits shape before event = machines.Fits core shape before event

-- every event fits the trace before it. A core run of a law, `CoreRun`, keeps the law besides.
abbrev pub Core : Shape → List Event → Type 0
Core shape trace = machines.Run core shape trace
