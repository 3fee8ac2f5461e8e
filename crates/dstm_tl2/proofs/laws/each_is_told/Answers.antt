use Rattle.dstm_tl2.proofs.Told.{each_is_told}
use Rattle.dstm_tl2.proofs.laws.each_is_told.Goals as goal

pub returns : goal.returns
returns g c = λ law table run caller is. each_is_told table run is.run caller
