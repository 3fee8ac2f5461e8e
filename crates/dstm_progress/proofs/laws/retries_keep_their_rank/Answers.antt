use Rattle.dstm_progress.proofs.Keeping.{retries_keep}
use Rattle.dstm_progress.proofs.laws.retries_keep_their_rank.Goals as goal

pub returns : goal.returns
returns c = retries_keep
