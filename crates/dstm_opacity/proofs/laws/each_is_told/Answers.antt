use Rattle.dstm_opacity.proofs.Told.{each_is_told}
use Rattle.dstm_opacity.proofs.laws.each_is_told.Goals as goal

pub returns : goal.returns
returns g c = λ law shape start run caller is. each_is_told shape start run is.core caller
