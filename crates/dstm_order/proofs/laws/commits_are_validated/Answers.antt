use Rattle.dstm_order.proofs.Commits.{every_commit}
use Rattle.dstm_order.proofs.laws.commits_are_validated.Goals as goal

pub returns : goal.returns
returns c = every_commit
