use Rattle.dstm_tl2.proofs.Standing.{done_stands}
use Rattle.dstm_tl2.proofs.laws.done_stands.Goals as goal

pub returns : goal.returns
returns g c = λ law table later before caller attempt is stands.
    done_stands table (g.L.Law.holds law) later before caller attempt is stands
