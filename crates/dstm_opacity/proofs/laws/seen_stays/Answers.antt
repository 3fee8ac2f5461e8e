use Rattle.dstm_opacity.proofs.Kept.{seen_stays}
use Rattle.dstm_opacity.proofs.laws.seen_stays.Goals as goal

pub returns : goal.returns
returns c = λ shape start later before caller core below active.
    seen_stays shape start later before caller core below active
