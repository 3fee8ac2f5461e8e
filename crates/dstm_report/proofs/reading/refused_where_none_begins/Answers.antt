use Rattle.std.proofs.Common.{◌≤◌, arith}
use Rattle.dstm_report.specs.declared.draft.TheConstants.{MAX_NUMBER}
use Rattle.dstm_report.specs.Reading.{report_of}
use Rattle.dstm_report.proofs.Refusals.{refused_is, is_refused}
use Rattle.dstm_report.proofs.reading.refused_where_none_begins.Goals as goal

pub returns : goal.returns
unfolding report_of
returns c = λ version lines line range.
    let printed = c.one_spelling.ensures.printed in
    let only = c.one_spelling.ensures.only in
    let small : version ≤ MAX_NUMBER = omega (arith, range) in
    (refused_is printed only version lines line small, is_refused printed only version lines line small)
