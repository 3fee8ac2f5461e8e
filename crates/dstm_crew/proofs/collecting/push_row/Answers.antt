use Rattle.std.proofs.Common.{ap, refl}
use Rattle.dstm_report.specs.Packed.{RowsAs}
use Rattle.dstm_report.specs.declared.report.Row.{Row}
use Rattle.dstm_crew.proofs.collecting.push_row.Goals as goal

pub returns-clause-row : goal.returns-clause-row
returns-clause-row c =
    let row : Row = record {
      line = c.line_at-line.result;
      worker = c.args.share.now.worker;
      round = c.args.round;
      number = c.number_done-number.result;
      replies = c.replies.result.now;
    } in (
      row,
      (
        ap (λ (rows : RowsAs). rows.items) c.push.ensures,
        record {
          line = c.line_at-line.ensures;
          worker = refl;
          round_is = refl;
          number = c.number_done-number.ensures;
          replies = c.replies.ensures.value;
        },
      ),
    )
