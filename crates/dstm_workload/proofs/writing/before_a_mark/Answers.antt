use Rattle.dstm_workload.proofs.Before.{split_before}
use Rattle.dstm_workload.proofs.writing.before_a_mark.Goals as goal

pub returns : goal.returns
returns c = split_before
