use Rattle.dstm_opacity.proofs.Kept.{put_stays}
use Rattle.dstm_opacity.proofs.laws.put_stays.Goals as goal

pub returns : goal.returns
returns c = λ shape later before event core kind. put_stays shape later before event core kind
