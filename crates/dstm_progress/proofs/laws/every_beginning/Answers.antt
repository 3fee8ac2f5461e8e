use Rattle.dstm_progress.proofs.Beginnings.{beginning}
use Rattle.dstm_progress.proofs.laws.every_beginning.Goals as goal

pub returns : goal.returns
returns c = beginning
