use Rattle.dstm_gen.proofs.Written.{lines_are}
use Rattle.dstm_gen.proofs.workload.lines_of_the_text.Goals as goal

pub returns : goal.returns
returns c = lines_are
