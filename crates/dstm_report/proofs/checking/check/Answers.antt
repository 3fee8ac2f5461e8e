use Rattle.std.proofs.Common.{◌+◌}
use Rattle.std.proofs.lemmas.Bool.{MatchBool-at_false}
use Rattle.dstm_report.specs.declared.verdict.Verdict.TheVariants.{NotLawful}
use Rattle.dstm_report.proofs.LineByLine.{bad_header, bad_row_found, tells_lawful, tells_line}
use Rattle.dstm_report.proofs.checking.check.Goals as goal

pub returns-then-report-workload : goal.returns-then-report-workload
returns-then-report-workload c =
    let workload = c.args.workload.now in
    let report = c.args.report.now in
    let told = bad_header workload report c.if-report-workload.true in
    record {
      lawful = tells_lawful workload report (NotLawful 1) told;
      bad = tells_line workload report (NotLawful 1) told;
    }

pub returns-then-not-branch : goal.returns-then-not-branch
returns-then-not-branch c =
    let workload = c.args.workload.now in
    let report = c.args.report.now in
    let i = c.loop-at.at in
    let told = bad_row_found workload report i c.if-report-workload.false
    c.as_slice-rows.ensures c.loop-at-test.true c.index-rows-at.is c.loop-at.invariant.good
    (MatchBool-at_false _ _ c.if-not-branch.true c.in_ok-follow.ensures) in
    record {
      lawful = tells_lawful workload report (NotLawful (2 + i)) told;
      bad = tells_line workload report (NotLawful (2 + i)) told;
    }

pub returns : goal.returns
returns c =
    let workload = c.args.workload.now in
    let report = c.args.report.now in
    record {
      lawful = tells_lawful workload report c.ending.result c.ending.ensures;
      bad = tells_line workload report c.ending.result c.ending.ensures;
    }
