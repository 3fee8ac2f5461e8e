use Rattle.dstm_tl2_order.proofs.Ones.{committed_stays, disturbed_stays}
use Rattle.dstm_tl2_order.proofs.laws.ends_stay.Goals as goal

pub returns : goal.returns
returns c = λ t later before c i. (disturbed_stays t later before c i, committed_stays t later before c i)
