-- Laws of what is known of a table on which jobs were tried, under each engine.
use Rattle.std.specs.Prelude.{◌<◌, ℕ, Option}
use Rattle.dstm_workload.specs.declared.workload.Job.{Job}
use Rattle.dstm_workload.specs.declared.workload.Workload.{Workload}
use Rattle.dstm_tables.specs.Tells.{IsPast, SameOwn, callers_of}
use Rattle.dstm_jobs.specs.Jobs.{HadToStop, NoneWasted}
use Rattle.dstm_jobs.specs.Tables.{IsRun, Round}

-- what is known of a caller's attempts at jobs as it was taken back is so in the record of its table
abbrev pub StaysAtClose : Type 0
StaysAtClose =
    (workload : Workload) (job : Option Job) (before after : Round) (c : ℕ) → IsRun after → c < callers_of before →
    IsPast before after → SameOwn c before after →
    (NoneWasted workload job before c → NoneWasted workload job after c)
    × (HadToStop workload job before c → HadToStop workload job after c)
