use Rattle.dstm_tl2_order.proofs.WasRead as proofs
use Rattle.dstm_tl2_order.proofs.laws.reads_so_far.Goals as goal

pub returns : goal.returns
returns c = λ t log c some. proofs.reads_so_far t log c some
