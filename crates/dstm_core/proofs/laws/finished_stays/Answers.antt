use Rattle.dstm_core.proofs.Prefixes.{finished_is}
use Rattle.dstm_core.proofs.Statuses.{finished_stays}
use Rattle.dstm_core.proofs.laws.finished_stays.Goals as goal

pub returns : goal.returns
returns g c = λ law shape start later before a run below finished.
    finished_stays shape later before a run.core below (finished_is _ finished)
