use Rattle.dstm_progress.proofs.Others.{has_another, shows_another}
use Rattle.dstm_progress.proofs.laws.every_again_shows_another.Goals as goal

pub returns : goal.returns
returns c = record { step = shows_another; caller = has_another }
