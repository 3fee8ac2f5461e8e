use Rattle.dstm_tl2_order.proofs.Bounded.{bounded}
use Rattle.dstm_tl2_order.proofs.laws.calls_are_bounded.Goals as goal

pub returns : goal.returns
returns c = λ task table state events can obeys. bounded task table state events can obeys
