use Rattle.dstm_tl2_order.proofs.Draws.{undrawn_none}
use Rattle.dstm_tl2_order.proofs.laws.undrawn_has_none.Goals as goal

pub returns : goal.returns
returns c = λ t log c none. undrawn_none t log c none
