use Rattle.dstm_opacity.proofs.Opacity.{history_is_serial}
use Rattle.dstm_opacity.proofs.laws.committed_legal.Goals as goal

pub returns : goal.returns
returns g c = λ law shape start run is. history_is_serial shape start (g.L.Law.holds law) run is
