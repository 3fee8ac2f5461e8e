use Rattle.dstm_model.proofs.Merging.{tell_all}
use Rattle.dstm_model.proofs.answers.callers_tell_all.Goals as goal

pub returns : goal.returns
returns c = λ one other fall falls same. tell_all one other fall falls same
