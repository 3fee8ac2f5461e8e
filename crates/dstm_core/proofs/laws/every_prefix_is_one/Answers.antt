use Rattle.dstm_core.proofs.Prefixes.{core_run_past}
use Rattle.dstm_core.proofs.laws.every_prefix_is_one.Goals as goal

pub returns : goal.returns
returns g c = λ law shape start later before run. core_run_past later before run
