use Rattle.dstm_progress.proofs.Beginnings.{leaving}
use Rattle.dstm_progress.proofs.laws.every_leaving.Goals as goal

pub returns : goal.returns
returns c = leaving
