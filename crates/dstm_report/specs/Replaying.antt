-- Private: how the rows of a report are followed: the jobs that are left, and the store so far.
use Rattle.std.specs.Prelude.{◌≡◌, List, []}
use Rattle.dstm_workload.specs.declared.workload.Workload.{Workload}
use Rattle.dstm_report.specs.declared.report.Row.{Row}
use Rattle.dstm_report.specs.declared.replay.Replay.{Replay}
use Rattle.dstm_report.specs.Lawful.{jobs_left, store_after, RowsAreGood}

-- good rows have been followed
pub record HasFollowed (workload : Workload) (rows : List Row) (replay : Replay) : Type 0 where
  pub good : RowsAreGood workload [] rows
  pub layout : replay.store.layout ≡ workload.layout
  pub store : replay.store ≡ store_after workload rows
  pub turns : replay.turns.left ≡ jobs_left workload.jobs rows
