use Rattle.dstm_progress.proofs.Disturbing.{cause_disturbs, disturbed_stays}
use Rattle.dstm_progress.proofs.Leaving.{was_disturbed}
use Rattle.dstm_progress.proofs.laws.a_cause_disturbs.Goals as goal

pub returns : goal.returns
returns c = record { disturbs = cause_disturbs; disturbed = was_disturbed; stays = disturbed_stays }
