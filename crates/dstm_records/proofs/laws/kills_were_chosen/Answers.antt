use Rattle.dstm_records.proofs.ByLaws.{each_kills_as_chosen}
use Rattle.dstm_records.proofs.laws.kills_were_chosen.Goals as goal

pub returns : goal.returns
returns c = each_kills_as_chosen
