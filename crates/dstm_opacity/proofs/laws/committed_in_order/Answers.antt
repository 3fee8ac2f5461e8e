use Rattle.dstm_opacity.proofs.Merging.{in_order}
use Rattle.dstm_opacity.proofs.laws.committed_in_order.Goals as goal

pub returns : goal.returns
returns g c = λ law shape start run is. in_order shape start run is.core
