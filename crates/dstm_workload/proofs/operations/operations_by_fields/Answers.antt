use Rattle.dstm_workload.proofs.OpLaws.{ops_read, ops_again}
use Rattle.dstm_workload.proofs.operations.operations_by_fields.Goals as goal

pub returns-clause-only : goal.returns-clause-only
returns-clause-only c = λ version known fields ops low high valid. ops_read version low known valid fields ops

pub returns-clause-all : goal.returns-clause-all
returns-clause-all c = λ version known ops low high valid. ops_again version low known valid ops
