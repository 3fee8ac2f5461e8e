use Rattle.dstm_order.proofs.Opens.{every_open}
use Rattle.dstm_order.proofs.laws.opens_end_in_a_pass.Goals as goal

pub returns : goal.returns
returns c = every_open
