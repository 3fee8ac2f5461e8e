-- Events of the machine.
use Rattle.dstm_machines.specs.declared.event.Event as trace
use Rattle.dstm_core.specs.declared.event.Kind.{Kind}

abbrev pub Event : Type 0
Event = trace.Event Kind
