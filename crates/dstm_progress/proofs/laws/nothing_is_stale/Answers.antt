use Rattle.dstm_progress.proofs.Unread.{nothing_is_stale}
use Rattle.dstm_progress.proofs.laws.nothing_is_stale.Goals as goal

pub returns : goal.returns
returns c = nothing_is_stale
