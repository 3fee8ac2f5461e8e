use Rattle.dstm_progress.proofs.Leaving.{keeps_its_attempt}
use Rattle.dstm_progress.proofs.laws.every_call_keeps_its_attempt.Goals as goal

pub returns : goal.returns
returns c = keeps_its_attempt
