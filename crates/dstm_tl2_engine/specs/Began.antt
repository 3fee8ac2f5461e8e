-- Private: how a call of a caller began.
use Rattle.dstm_tl2_order.specs.Tasks.{Task}
use Rattle.dstm_tl2_steps.specs.Under.{Began}
use Rattle.dstm_tl2_engine.specs.Callers.{TlCalled, state}

abbrev pub began_of : {L : Type 0} → Task → TlCalled L → Began
began_of task k = record { task = task; number = k.number; state = state k; log = k.log }
