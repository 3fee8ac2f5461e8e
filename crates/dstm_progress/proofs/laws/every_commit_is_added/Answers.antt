use Rattle.dstm_progress.proofs.Adding.{adds_nothing, is_added}
use Rattle.dstm_progress.proofs.laws.every_commit_is_added.Goals as goal

pub returns : goal.returns
returns c = record { added = is_added; other = adds_nothing }
