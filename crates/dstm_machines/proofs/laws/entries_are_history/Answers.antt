use Rattle.dstm_machines.proofs.Callers.{entries_are_history}
use Rattle.dstm_machines.proofs.laws.entries_are_history.Goals as goal

pub returns : goal.returns
returns g c = λ commits entry trace. entries_are_history commits entry trace
