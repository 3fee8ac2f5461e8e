use Rattle.std.proofs.Common.{◌≤◌, arith}
use Rattle.dstm_report.specs.declared.draft.TheConstants.{MAX_NUMBER}
use Rattle.dstm_report.proofs.Refusals.{either_way, not_refused, same_report, same_place}
use Rattle.dstm_report.proofs.reading.one_reading.Goals as goal

pub returns : goal.returns
returns c =
    let printed = c.one_spelling.ensures.printed in
    record {
      either = λ version lines range.
          let small : version ≤ MAX_NUMBER = omega (arith, range) in
          either_way printed c.one_spelling.ensures.only version lines small;
      apart = not_refused;
      report = same_report printed;
      line = same_place;
    }
