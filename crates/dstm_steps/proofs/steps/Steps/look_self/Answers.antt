use Rattle.std.proofs.Common.{refl}
use Rattle.dstm_steps.proofs.Checks.{own_below}
use Rattle.dstm_steps.proofs.steps.Steps.look_self.Goals as goal

pub status-place-requires-clause-below : goal.status-place-requires-clause-below
status-place-requires-clause-below g c = own_below c.requires.under (rw c.requires.running.phase refl)
