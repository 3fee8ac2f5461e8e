use Rattle.std.proofs.Common.{ℕ, ◌≤◌, List, Result, Ok, Err, IfOk, IfErr, arith}
use Rattle.dstm_text.specs.Lines.{lines_of}
use Rattle.dstm_report.specs.declared.draft.TheConstants.{MAX_NUMBER}
use Rattle.dstm_report.specs.declared.error.ReportError.{ReportError}
use Rattle.dstm_report.specs.declared.error.ReportError.TheVariants as errors
use Rattle.dstm_report.specs.declared.report.Report.{Report}
use Rattle.dstm_report.specs.Answers.{Gives, TellsLine}
use Rattle.dstm_report.specs.Parser.{parsed}
use Rattle.dstm_report.specs.Reading.{report_of, AreLinesOf, AreRefusedAt}
use Rattle.dstm_report.proofs.Words.{Printed}
use Rattle.dstm_report.proofs.ReadAsPrinted.{Only}
use Rattle.dstm_report.proofs.Drafts.{read_is_printed}
use Rattle.dstm_report.proofs.Refusals.{refused_is}
use Rattle.dstm_report.proofs.reading.read_report.Goals as goal

-- what a reader that parses lines answers
answers_read : Printed → Only → (version : ℕ) (lines : List (List ℕ)) (result : Result Report ReportError) →
    Gives result (parsed version lines) → IfOk result (λ report. AreLinesOf version report lines)
answers_read printed only version lines (Ok report) gives = read_is_printed printed only version lines report gives
answers_read printed only version lines (Err error) gives = tt

answers_refused : Printed → Only → (version : ℕ) (lines : List (List ℕ)) (result : Result Report ReportError) →
    version ≤ MAX_NUMBER → Gives result (parsed version lines) →
    IfErr result (TellsLine (AreRefusedAt version lines))
answers_refused printed only version lines (Ok report) small gives = tt
answers_refused printed only version lines (Err (errors.Memory e)) small gives = tt
answers_refused printed only version lines (Err (errors.Form line)) small gives =
    refused_is printed only version lines line small gives

pub returns : goal.returns
unfolding report_of
returns c =
    let printed = c.one_spelling.ensures.printed in
    let only = c.one_spelling.ensures.only in
    let version = c.args.version in
    let lines = lines_of c.args.bytes.now in
    let small : version ≤ MAX_NUMBER = omega (arith, c.ranges.version) in
    record {
      read = answers_read printed only version lines c.parse.result c.parse.ensures;
      refused = answers_refused printed only version lines c.parse.result small c.parse.ensures;
      exact = c.parse.ensures;
    }
