use Rattle.dstm_tl2_order.proofs.Looks.{four_looks}
use Rattle.dstm_tl2_order.proofs.laws.reads_are_four_looks.Goals as goal

pub returns : goal.returns
returns c = λ object table state events call answer. four_looks object call answer
