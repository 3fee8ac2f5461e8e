use Rattle.dstm_opacity.proofs.Standing.{done_stands}
use Rattle.dstm_opacity.proofs.laws.done_stands.Goals as goal

pub returns : goal.returns
returns g c = λ law shape start later before caller attempt is stands.
    done_stands shape start (g.L.Law.holds law) later before caller attempt is stands
