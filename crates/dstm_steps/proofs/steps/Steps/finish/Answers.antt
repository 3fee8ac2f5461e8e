use Rattle.std.proofs.Common.{refl}
use Rattle.dstm_steps.proofs.Checks.{own_below}
use Rattle.dstm_steps.proofs.steps.Steps.finish.Goals as goal

pub status-status-requires-clause-below : goal.status-status-requires-clause-below
status-status-requires-clause-below g c = own_below c.requires.under (rw c.requires.phase refl)
