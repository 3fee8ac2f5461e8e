use Rattle.std.proofs.lemmas.Slice.Eq.{slice_eq-Decides}
use Rattle.dstm_report.proofs.Equality.{same_reply}
use Rattle.dstm_report.proofs.replay.same_replies.Goals as goal

pub returns : goal.returns
returns c = slice_eq-Decides same_reply c.args.left.now c.args.right.now c.eq.result c.eq.ensures
