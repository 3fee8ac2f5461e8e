-- What stands for how a call began, before the call picks it.
use Rattle.std.specs.Prelude.{[]}
use Rattle.dstm_core.specs.State.{first}
use Rattle.dstm_order.specs.Tasks.Task.{Enrolling}
use Rattle.dstm_steps.specs.Under.{Began}

abbrev pub unbegun : Began
unbegun = record {
  task = Enrolling;
  number = 0;
  state = first;
  generator = record { state = 0; increment = 0 };
  log = [];
}
