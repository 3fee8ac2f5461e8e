use Rattle.dstm_records.proofs.ByLaws.{each_is_bounded_when_alone}
use Rattle.dstm_records.proofs.laws.alone_attempts_were_bounded.Goals as goal

pub returns : goal.returns
returns c = each_is_bounded_when_alone
