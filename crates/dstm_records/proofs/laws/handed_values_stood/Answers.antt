use Rattle.dstm_records.proofs.ByLaws.{each_was_handed}
use Rattle.dstm_records.proofs.laws.handed_values_stood.Goals as goal

pub returns : goal.returns
returns c = each_was_handed
