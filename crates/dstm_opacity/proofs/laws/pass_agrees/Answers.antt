use Rattle.dstm_opacity.proofs.Opacity.{sight_is_seen}
use Rattle.dstm_opacity.proofs.laws.pass_agrees.Goals as goal

pub returns : goal.returns
returns g c = λ law shape start later before sight run is.
    sight_is_seen shape start (g.L.Law.holds law) later before sight run is
