use Rattle.dstm_progress.proofs.Committing.{commit_ends}
use Rattle.dstm_progress.proofs.laws.every_commit_ends.Goals as goal

pub returns : goal.returns
returns c = commit_ends
