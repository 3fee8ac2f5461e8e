use Rattle.dstm_records.proofs.ByLaws.{each_is_safe_when_oldest}
use Rattle.dstm_records.proofs.laws.oldest_attempts_were_safe.Goals as goal

pub returns : goal.returns
returns c = each_is_safe_when_oldest
