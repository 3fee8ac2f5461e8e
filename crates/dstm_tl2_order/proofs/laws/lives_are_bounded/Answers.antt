use Rattle.dstm_tl2_order.proofs.AddingUp.{lives_bounded}
use Rattle.dstm_tl2_order.proofs.laws.lives_are_bounded.Goals as goal

pub returns : goal.returns
returns c = λ table log c by. lives_bounded table log c by
