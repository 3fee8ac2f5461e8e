use Rattle.dstm_progress.proofs.Causes.{again_has_its_cause}
use Rattle.dstm_progress.proofs.laws.every_again_has_its_cause.Goals as goal

pub returns : goal.returns
returns c = again_has_its_cause
