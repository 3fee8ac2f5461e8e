use Rattle.std.proofs.Common.{◌≡◌, ℕ, Bool, true, List, length, Option, Some, Result, Ok, Err, leb, ap, subst, ◌∙◌}
use Rattle.std.proofs.Common.{if◌then◌else◌}
use Rattle.std.proofs.lemmas.Bool.{le-leb}
use Rattle.dstm_text.specs.Lines.{lines_of}
use Rattle.dstm_workload.specs.declared.workload.Workload.{Workload}
use Rattle.dstm_workload.specs.Reading.{workload_of}
use Rattle.dstm_workload.specs.Writing.{as_written}
use Rattle.dstm_report.specs.declared.report.Report.{Report}
use Rattle.dstm_report.specs.Reading.{report_of}
use Rattle.dstm_report.specs.Text.{report_text}
use Rattle.dstm_cli.specs.declared.failure.Failure.{Failure}
use Rattle.dstm_cli.specs.declared.failure.Failure.TheVariants.{TooLong}
use Rattle.dstm_cli.specs.Command.{beside, then_reported, case_of, case_text}
use Rattle.dstm_cli.proofs.laws.check_takes_reports.Goals as goal

pub returns : goal.returns
returns c = λ workload report valid held version fits.
    let lines : List (List ℕ) = lines_of (case_text workload report) in
    let behind : List (List ℕ) = lines_of (report_text report) in
    let count = length lines in
    let short : leb (length (case_text workload report)) 8388608 ≡ true = le-leb _ _ fits in
    let read : Result (Workload × Report) Failure = case_of lines in
    let told : report_of workload.version behind ≡ Ok report =
    subst (λ v. report_of v behind ≡ Ok report) version (c.read_back-2.ensures report held) in
    let Split : Type 0 = List (List ℕ) × Option (List (List ℕ)) in
    ap (λ (b : Bool). if b then read else Err TooLong) short
    ∙ ap (λ (s : Split). then_reported count s.1 (workload_of s.0)) (c.before_a_mark.ensures workload (report_text report) valid)
    ∙ ap (then_reported count (Some behind)) (c.read_back.ensures workload valid)
    ∙ ap (beside (as_written workload)) told
