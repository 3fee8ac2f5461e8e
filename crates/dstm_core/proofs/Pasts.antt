-- What stands before some events of a core run is a core run.
use Rattle.std.proofs.Common.{◌++◌, List}
use Rattle.dstm_machines.proofs.Pasts.{run_before}
use Rattle.dstm_machines.proofs.Runs as runs
use Rattle.dstm_core.proofs.Base.{Core, Event, IsPastOf, Shape}
use Rattle.dstm_core.specs.Runs.{core as machine}

-- by the events that follow
pub core_past : (s : Shape) (more es : List Event) → Core s (more ++ es) → Core s es
core_past = runs.run_past machine

-- by a past
pub core_before : (s : Shape) (q es : List Event) → IsPastOf q es → Core s es → Core s q
core_before = run_before machine
