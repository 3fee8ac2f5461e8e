use Rattle.std.proofs.Common.{inl}
use Rattle.dstm_steps.proofs.Ranged.{owner_below}
use Rattle.dstm_steps.proofs.steps.Steps.look_rank.Goals as goal

pub rank-place-requires-clause-below : goal.rank-place-requires-clause-below
rank-place-requires-clause-below g c =
    owner_below c.requires.runs.under (inl c.requires.runs.running.phase) c.requires.runs.running.agreed c.requires.owner c.requires.live
