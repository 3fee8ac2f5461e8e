use Rattle.dstm_steps.proofs.Checks.{own_in_shape}
use Rattle.dstm_steps.proofs.steps.Steps.quit.Goals as goal

pub status-place-requires-clause-below : goal.status-place-requires-clause-below
status-place-requires-clause-below g c = own_in_shape c.requires.under c.requires.live
