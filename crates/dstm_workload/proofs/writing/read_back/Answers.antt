use Rattle.dstm_workload.proofs.TextAgain.{read_again}
use Rattle.dstm_workload.proofs.writing.read_back.Goals as goal

pub returns : goal.returns
returns c = λ workload valid. read_again workload valid
