use Rattle.dstm_tl2.proofs.Done.{same_done_by}
use Rattle.dstm_tl2.proofs.laws.told_stays.Goals as goal

pub returns : goal.returns
returns c = λ table one other caller same. same_done_by table one other caller same
