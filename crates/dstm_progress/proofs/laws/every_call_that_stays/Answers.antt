use Rattle.dstm_progress.proofs.Staying.{attempts_stay, call_stays}
use Rattle.dstm_progress.proofs.laws.every_call_that_stays.Goals as goal

pub returns : goal.returns
returns c = record { stays = call_stays; attempts = attempts_stay }
