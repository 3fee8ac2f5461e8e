use Rattle.dstm_order.proofs.Misses.{missed_is}
use Rattle.dstm_order.proofs.laws.misses_are_counted.Goals as goal

pub returns : goal.returns
returns c = missed_is
