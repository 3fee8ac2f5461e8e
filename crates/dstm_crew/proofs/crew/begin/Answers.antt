use Rattle.dstm_crew.proofs.Played.{all_left}
use Rattle.dstm_crew.proofs.crew.begin.Goals as goal

pub returns-clause-turns : goal.returns-clause-turns
returns-clause-turns c = all_left c.args.workload.now c.as_slice-jobs.ensures c.in_ok-turns.ensures
