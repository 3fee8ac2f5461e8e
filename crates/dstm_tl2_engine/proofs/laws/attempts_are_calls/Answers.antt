use Rattle.dstm_tl2_engine.proofs.Living.{attempts_are_calls}
use Rattle.dstm_tl2_engine.proofs.laws.attempts_are_calls.Goals as goal

pub returns : goal.returns
returns g c = attempts_are_calls g.L.Law.holds
