use Rattle.std.proofs.Common.{arith}
use Rattle.dstm_steps.proofs.Checks.{own_in_shape}
use Rattle.dstm_steps.proofs.steps.Steps.validate.Goals as goal

pub status-status-requires-clause-below : goal.status-status-requires-clause-below
status-status-requires-clause-below g c = own_in_shape c.requires.under (λ q. let r = c.requires.ready in grind arith)
