use Rattle.dstm_opacity.proofs.Found.{found_stays}
use Rattle.dstm_opacity.proofs.laws.found_stays.Goals as goal

pub returns : goal.returns
returns c = λ shape start later before look core. found_stays shape start later before look core
