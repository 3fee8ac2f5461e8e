use Rattle.dstm_progress.proofs.Leaving.{is_aborted}
use Rattle.dstm_progress.proofs.laws.every_again_is_aborted.Goals as goal

pub returns : goal.returns
returns c = is_aborted
