use Rattle.std.proofs.Common.{ℕ, List, ap, ◌∙◌, sym, subst}
use Rattle.dstm_workload.specs.declared.workload.Job.{Job}
use Rattle.dstm_workload.specs.declared.workload.Workload.{Workload}
use Rattle.dstm_workload.specs.Workload.{IsValidWorkload}
use Rattle.dstm_gen.specs.Words.{words_of_seed}
use Rattle.dstm_gen.specs.Generated.{generated_layout, jobs_of}
use Rattle.dstm_gen.proofs.Validity.{generated-valid}
use Rattle.dstm_gen.proofs.workload.generate.Goals as goal

pub returns-clause-valid : goal.returns-clause-valid
returns-clause-valid c =
    let count = c.args.count in
    let workers = c.args.workers in
    let same =
    c.from_vec.ensures ∙ c.in_ok-jobs.ensures
    ∙ ap (λ (words : ℕ → ℕ). jobs_of words count workers) c.of_seed.ensures in
    let made : List Job → Workload =
    λ jobs. record { version = 1; workers = workers; layout = generated_layout; jobs = jobs } in
    subst (λ (jobs : List Job). IsValidWorkload (made jobs)) (sym same)
    (generated-valid (words_of_seed c.args.seed) count workers
    c.requires.few_jobs c.requires.some_worker c.requires.few_workers)
