use Rattle.dstm_workload.specs.Operations.{ops_at}
use Rattle.dstm_workload.proofs.OpsLoop.{AreLeft}
use Rattle.dstm_workload.proofs.operations.operations.Given as goal

abbrev pub invariant-loop : goal.invariant-loop
invariant-loop l = AreLeft l.version l.known l.counter l.ops l.first l.fields (ops_at l.version l.known l.fn.fields)
