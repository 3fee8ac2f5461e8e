use Rattle.std.proofs.Common.{arith, inl}
use Rattle.dstm_steps.proofs.Ranged.{owner_below}
use Rattle.dstm_steps.proofs.steps.Steps.look_status.Goals as goal

pub status-place-requires-clause-below : goal.status-place-requires-clause-below
status-place-requires-clause-below g c =
    owner_below c.requires.runs.under (inl c.requires.runs.running.phase) c.requires.runs.running.agreed c.requires.owner
    (rw c.requires.fresh (omega arith))
