use Rattle.dstm_workload.proofs.NumbersRead.{operand_read}
use Rattle.dstm_workload.proofs.fields.operand.Goals as goal

pub returns-in-Some-clause-read : goal.returns-in-Some-clause-read
returns-in-Some-clause-read c =
    let came = c.in-Some.ensures.some in
    operand_read _ _ _ came.0 _ _ _ came.1.0 came.1.1 c.within.ensures.read
