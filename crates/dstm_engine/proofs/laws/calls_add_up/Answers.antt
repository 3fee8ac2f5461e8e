use Rattle.dstm_engine.proofs.AddingUp.{calls_add_up}
use Rattle.dstm_engine.proofs.laws.calls_add_up.Goals as goal

pub returns : goal.returns
returns g c = calls_add_up g.L.Law.holds
