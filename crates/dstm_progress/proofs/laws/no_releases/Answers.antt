use Rattle.dstm_progress.proofs.Releases.{no_releases}
use Rattle.dstm_progress.proofs.laws.no_releases.Goals as goal

pub returns : goal.returns
returns c = no_releases
