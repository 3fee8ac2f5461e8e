use Rattle.std.proofs.Common.{◌≡◌, ◌++◌, take}
use Rattle.std.specs.List.{All, flat_map}
use Rattle.dstm_report.specs.Reading.{FitsRow}
use Rattle.dstm_report.specs.Text.{row_text}
use Rattle.dstm_report.proofs.rendering.with_rows.Given as goal

abbrev pub invariant-loop-row : goal.invariant-loop-row
invariant-loop-row l = record {
  text : l.out.items ≡ l.initial.out.items ++ flat_map row_text (take l.row-index l.rows);
  fits : All FitsRow (take l.row-index l.rows);
}
