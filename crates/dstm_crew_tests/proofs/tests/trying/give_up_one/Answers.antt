use Rattle.std.proofs.Common.{◌≡◌, ◌<◌, ℕ, List, arith, false, get_or, length, subst, sym}
use Rattle.std.specs.Prelude.{All}
use Rattle.std.proofs.lemmas.List.Elements.{All-get_or}
use Rattle.dstm_workload.specs.declared.workload.Job.{Job}
use Rattle.dstm_workload.specs.declared.workload.Workload.{Workload}
use Rattle.dstm_workload.specs.Workload.{IsJob, IsValidWorkload}
use Rattle.dstm_jobs.specs.declared.style.Style.{Style}
use Rattle.dstm_jobs.specs.Styles.{CanTry, style_of}
use Rattle.dstm_crew.proofs.Worked.{can_try}
use Rattle.dstm_crew_tests.proofs.tests.trying.give_up_one.Goals as goal

job_can : (workload : Workload) (style : Style) (jobs : List Job) (i : ℕ) (job : Job) → IsValidWorkload workload →
    style ≡ style_of workload.version false → jobs ≡ workload.jobs → i < length jobs → job ≡ get_or jobs i job →
    CanTry style workload.layout job
job_can workload style jobs i job valid styled same inside is =
    subst (λ (s : Style). CanTry s workload.layout job) (sym styled)
    (can_try workload false job valid
    (subst (IsJob workload) (sym is)
    (All-get_or (IsJob workload) jobs i job inside (subst (All (IsJob workload)) (sym same) valid.each))))

pub try_alone-requires-clause-can : goal.try_alone-requires-clause-can
try_alone-requires-clause-can c =
    job_can c.args.workload.now c.of-style.result c.as_slice.result.now 0 c.first-item.result
    c.requires.valid c.of-style.ensures c.as_slice.ensures (omega arith) c.first-item.is

pub try_alone-requires-2-clause-can : goal.try_alone-requires-2-clause-can
try_alone-requires-2-clause-can c =
    job_can c.args.workload.now c.of-style.result c.as_slice.result.now 1 c.second-item.result
    c.requires.valid c.of-style.ensures c.as_slice.ensures (omega arith) c.second-item.is
