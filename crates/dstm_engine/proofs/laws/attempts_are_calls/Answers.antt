use Rattle.dstm_engine.proofs.Attempting.{attempt_makes}
use Rattle.dstm_engine.proofs.Anew.{new_after}
use Rattle.dstm_engine.proofs.laws.attempts_are_calls.Goals as goal

pub returns : goal.returns
returns g c = record { makes = attempt_makes g.L.Law.holds; again = new_after g.L.Law.holds }
