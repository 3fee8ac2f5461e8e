use Rattle.dstm_order.proofs.Beginnings.{retry_keeps}
use Rattle.dstm_order.proofs.laws.retries_begin_with_their_rank.Goals as goal

pub returns : goal.returns
returns c = retry_keeps
