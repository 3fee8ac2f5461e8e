-- Private: how a call of a caller began.
use Rattle.dstm_steps.specs.Under.{Began}
use Rattle.dstm_order.specs.Tasks.{Task}
use Rattle.dstm_engine.specs.Callers.{Called, state}

abbrev pub began_of : {L : Type 0} → Task → Called L → Began
began_of task k = record { task = task; number = k.number; state = state k; generator = k.generator; log = k.log }
