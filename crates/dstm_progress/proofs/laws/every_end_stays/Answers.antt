use Rattle.dstm_progress.proofs.Ends.{end_stays}
use Rattle.dstm_progress.proofs.laws.every_end_stays.Goals as goal

pub returns : goal.returns
returns c = end_stays
