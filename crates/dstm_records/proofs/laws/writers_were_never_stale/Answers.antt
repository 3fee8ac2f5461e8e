use Rattle.dstm_records.proofs.ByLaws.{each_is_never_stale}
use Rattle.dstm_records.proofs.laws.writers_were_never_stale.Goals as goal

pub returns : goal.returns
returns c = each_is_never_stale
