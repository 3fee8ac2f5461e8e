use Rattle.dstm_core.proofs.Prefixes.{installed_kept}
use Rattle.dstm_core.proofs.laws.installed_stays.Goals as goal

pub returns : goal.returns
returns g c = λ law shape start later before event run installs.
    installed_kept shape later before run.core installs
