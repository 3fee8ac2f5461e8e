use Rattle.dstm_tl2_order.proofs.Draws as proofs
use Rattle.dstm_tl2_order.proofs.laws.valid_commits.Goals as goal

pub returns : goal.returns
returns c = λ t log c run valid. proofs.valid_commits t log c run valid
