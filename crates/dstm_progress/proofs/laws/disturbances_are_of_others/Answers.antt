use Rattle.dstm_progress.proofs.Disturbers.{beside_another, by_another, none_alone}
use Rattle.dstm_progress.proofs.laws.disturbances_are_of_others.Goals as goal

pub returns : goal.returns
returns c = record { since_begin = by_another; beside = beside_another; alone = none_alone }
