use Rattle.dstm_opacity.proofs.Stays.{told_stays}
use Rattle.dstm_opacity.proofs.laws.told_stays.Goals as goal

pub returns : goal.returns
returns g c = λ law shape start later before caller is same. told_stays shape start later before caller is.core same
