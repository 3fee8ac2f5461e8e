use denote.Param.Send.{sendable}
use Rattle.std.proofs.Crossing.{crosses}
use Rattle.dstm_engine.proofs.Sends.{caller_send}
use Rattle.dstm_engine_tests.proofs.tests.threads.move_beside.Goals as goal

pub move_both-east-requires-send-C : goal.move_both-east-requires-send-C
move_both-east-requires-send-C g c = search (caller_send, crosses, sendable) depth 20
