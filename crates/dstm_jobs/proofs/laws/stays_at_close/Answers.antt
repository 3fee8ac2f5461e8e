use Rattle.dstm_jobs.proofs.Closing.{none_at_close, stop_at_close}
use Rattle.dstm_jobs.proofs.laws.stays_at_close.Goals as goal

pub returns : goal.returns
returns c = λ workload job before after n run inside past own. (
  none_at_close workload job before after n run inside past own,
  stop_at_close workload job before after n run inside past own,
)
