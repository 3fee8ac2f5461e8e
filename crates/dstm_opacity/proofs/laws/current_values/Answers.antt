use Rattle.dstm_opacity.proofs.Opacity.{state_is_current}
use Rattle.dstm_opacity.proofs.laws.current_values.Goals as goal

pub returns : goal.returns
returns g c = λ law shape start run is. state_is_current shape start (g.L.Law.holds law) run is
