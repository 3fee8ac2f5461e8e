use Rattle.dstm_records.proofs.ByLaws.{each_keeps_its_rank}
use Rattle.dstm_records.proofs.laws.retries_kept_their_rank.Goals as goal

pub returns : goal.returns
returns c = each_keeps_its_rank
