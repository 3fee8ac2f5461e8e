use Rattle.dstm_tl2.proofs.Standing.{in_order}
use Rattle.dstm_tl2.proofs.laws.committed_in_order.Goals as goal

pub returns : goal.returns
returns g c = λ law table run is. in_order table run is.run
