use Rattle.dstm_progress.proofs.Overtaken.{some_again as the_again}
use Rattle.dstm_progress.proofs.some_again.Goals as goal

pub returns : goal.returns
returns c = the_again
