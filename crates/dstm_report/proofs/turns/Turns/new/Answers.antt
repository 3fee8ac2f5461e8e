use Rattle.std.proofs.Common.{List, ap}
use Rattle.dstm_workload.specs.declared.workload.Job.{Job}
use Rattle.dstm_report.specs.Turns.{Turning}
use Rattle.dstm_report.proofs.Places.{starts}
use Rattle.dstm_report.proofs.turns.Turns.new.Goals as goal

pub returns : goal.returns
returns c =
    let whole : List Job → Turning = λ (left : List Job). record { jobs = c.args.jobs.now; left = left } in
    ap whole (starts c.requires c.in_ok-next.ensures)
