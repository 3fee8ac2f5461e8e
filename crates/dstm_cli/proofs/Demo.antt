-- What the demo tells of a run of a generated workload.
use Rattle.std.proofs.Common.{◌≡◌, ℕ, ◌*◌, Bool, true, false, cond, eqb, List, sum, Option, Some, None, ap, sym, subst, ◌∙◌}
use Rattle.std.specs.Prelude.{IfSome}
use Rattle.dstm_command.specs.declared.command.GenSpec.{GenSpec}
use Rattle.dstm_gen.specs.Words.{words_of_seed}
use Rattle.dstm_gen.proofs.Validity.{length-jobs_of}
use Rattle.dstm_workload.specs.declared.workload.Workload.{Workload}
use Rattle.dstm_report.specs.declared.report.Report.{Report}
use Rattle.dstm_report.specs.declared.verdict.Verdict.{Verdict}
use Rattle.dstm_report.specs.declared.verdict.Verdict.TheVariants.{Lawful}
use Rattle.dstm_report.specs.Lawful.{IsLawful, store_after}
use Rattle.dstm_jobs.specs.Tables.{Round}
use Rattle.dstm_records.specs.Records.{StandFor}
use Rattle.dstm_cli.specs.Command.{default_options, demo_text, workload_for, IsDemo}

-- the balances that a lawful report tells have the sum that the accounts were opened with, where it tells them
pub told_balances : (workload : Workload) (report : Report) (all : ℕ) → IsLawful workload report →
    sum (store_after workload report.rows).balances ≡ all → IfSome report.bank (λ bank. sum bank ≡ all)
told_balances workload report all lawful stays =
    let balances = (store_after workload report.rows).balances in
    subst (λ (bank : Option (List ℕ)). IfSome bank (λ bs. sum bs ≡ all)) (sym lawful.bank)
    (by balances stays (eqb workload.layout.accounts 0))
  where
    by : (balances : List ℕ) → sum balances ≡ all → (b : Bool) →
        IfSome (cond b None (Some balances)) (λ bs. sum bs ≡ all)
    by balances is true = tt
    by balances is false = is

pub is_demo : (spec : GenSpec) (records : List Round) (workload : Workload) (report : Report) (total : ℕ) (verdict : Verdict)
    (text : List ℕ) → workload ≡ workload_for spec → IsLawful workload report → StandFor workload default_options records report →
    IfSome report.bank (λ bank. sum bank ≡ workload.layout.accounts * workload.layout.opening) →
    total ≡ workload.layout.accounts * workload.layout.opening → verdict ≡ Lawful →
    text ≡ demo_text report.count total verdict → IsDemo spec records text
is_demo spec records workload report total verdict text generated lawful stand balances told judged is =
    let here : IsLawful (workload_for spec) report = subst (λ (w : Workload). IsLawful w report) generated lawful in
    let jobs = length-jobs_of (words_of_seed spec.seed) spec.count spec.workers in
    let count : report.count ≡ spec.count = here.count ∙ here.whole ∙ jobs in
    let sums : total ≡ 8000 = told ∙ ap (λ (w : Workload). w.layout.accounts * w.layout.opening) generated in
    record {
      report = report;
      lawful = here;
      stand = subst (λ (w : Workload). StandFor w default_options records report) generated stand;
      balances = subst (λ (w : Workload). IfSome report.bank (λ bank. sum bank ≡ w.layout.accounts * w.layout.opening))
          generated balances;
      is = is ∙ ap (λ n. demo_text n total verdict) count ∙ ap (λ n. demo_text spec.count n verdict) sums
          ∙ ap (demo_text spec.count 8000) judged;
    }
