use Rattle.dstm_progress.proofs.Kills.{kills_are_chosen}
use Rattle.dstm_progress.proofs.laws.kills_are_chosen.Goals as goal

pub returns : goal.returns
returns c = kills_are_chosen
