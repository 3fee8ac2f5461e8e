use Rattle.std.proofs.Common.{◌≡◌}
use Rattle.dstm_model.specs.declared.layout.Layout.{Layout}
use Rattle.dstm_workload.specs.declared.workload.Job.{Job}
use Rattle.dstm_jobs.specs.declared.style.Style.{Style}
use Rattle.dstm_jobs.specs.Tables.{Caller}
use Rattle.dstm_tables.specs.declared.tables.Caller.TheVariants.{Dstm, Tl2}
use Rattle.dstm_tables.specs.Callers.{law_of, round_of}
use Rattle.dstm_jobs.specs.Jobs.{StoodAt}
use Rattle.dstm_jobs.specs.OnlyCallers.{StoodAlone}
use Rattle.dstm_tables.specs.Tells.{callers_of}
use Rattle.dstm_jobs.proofs.OnlyTries as by_tl2
use Rattle.dstm_jobs.proofs.Sole as by_dstm
use Rattle.dstm_jobs.proofs.only.try_alone.Goals as goal

stood_alone : (style : Style) (layout : Layout) (job : Job) (k n : Caller) → callers_of (round_of k) ≡ 1 →
    (law_of k).layout ≡ layout → StoodAt style 1 layout job k n → StoodAlone style layout job k n
stood_alone style layout job (Dstm k) (Dstm n) one law was = by_dstm.stood_alone style layout job k n one law was
stood_alone style layout job (Tl2 k) (Tl2 n) one law was = by_tl2.stood_alone style layout job k n one was
stood_alone style layout job (Dstm k) (Tl2 n) one law was = absurd was.made.on.seen
stood_alone style layout job (Tl2 k) (Dstm n) one law was = absurd was.made.on.seen

pub returns-in-Blocked-clause-tried : goal.returns-in-Blocked-clause-tried
returns-in-Blocked-clause-tried c =
    stood_alone c.args.style c.args.layout.now c.args.job.now c.args.caller.now c.attempt_job.new.caller c.requires.only
    c.requires.law c.in-Blocked.ensures.tried
