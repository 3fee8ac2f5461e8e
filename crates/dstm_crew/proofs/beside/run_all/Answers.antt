use Rattle.std.proofs.Common.{rules}
use denote.Param.Send.{sendable}
use Rattle.std.proofs.Crossing.{crosses}
use Rattle.dstm_crew.proofs.Ended.{same_each}
use Rattle.dstm_crew.proofs.Sends.{worker_send}
use Rattle.dstm_crew.proofs.beside.run_all.Goals as goal

pub for_each_mut-requires-send-T : goal.for_each_mut-requires-send-T
for_each_mut-requires-send-T g c κs within = search (worker_send, crosses, sendable) depth 20

pub returns-clause-same : goal.returns-clause-same
returns-clause-same g c =
    same_each c.args.workers.now c.for_each_mut.new.s c.for_each_mut.auto.s
    (λ k d below. let h = (c.for_each_mut.ensures k d below).1 in search rules)
