use Rattle.dstm_tl2_engine.proofs.Living.{calls_add_up}
use Rattle.dstm_tl2_engine.proofs.laws.calls_add_up.Goals as goal

pub returns : goal.returns
returns g c = calls_add_up g.L.Law.holds
