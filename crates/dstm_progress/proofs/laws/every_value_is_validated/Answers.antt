use Rattle.dstm_progress.proofs.Validated.{every_value}
use Rattle.dstm_progress.proofs.laws.every_value_is_validated.Goals as goal

pub returns : goal.returns
returns c = every_value
