use Rattle.dstm_tl2_engine.proofs.Living.{a_life_is_calls}
use Rattle.dstm_tl2_engine.proofs.laws.a_life_is_calls.Goals as goal

pub returns : goal.returns
returns g c = a_life_is_calls g.L.Law.holds
