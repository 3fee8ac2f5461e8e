use Rattle.std.proofs.Common.{inl}
use Rattle.dstm_steps.proofs.Checks.{next_in_shape}
use Rattle.dstm_steps.proofs.steps.Steps.check_next.Goals as goal

pub object-place-requires-clause-below : goal.object-place-requires-clause-below
object-place-requires-clause-below g c =
    rw c.requires.read.0 at (next_in_shape c.requires.under (inl (c.requires.running.phase, c.requires.pass))
    c.requires.running.agreed c.requires.left)
