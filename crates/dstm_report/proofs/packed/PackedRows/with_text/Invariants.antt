use Rattle.std.proofs.Common.{◌≡◌, ◌++◌, take}
use Rattle.std.specs.List.{All, flat_map}
use Rattle.dstm_report.specs.Packed.{unpacked}
use Rattle.dstm_report.specs.Reading.{FitsRow}
use Rattle.dstm_report.specs.Text.{row_text}
use Rattle.dstm_report.proofs.packed.PackedRows.with_text.Given as goal

abbrev pub invariant-loop-head : goal.invariant-loop-head
invariant-loop-head l = record {
  text : l.out.items ≡ l.initial.out.items
      ++ flat_map row_text (unpacked l.self-inside.replies.items (take l.head-index l.self-inside.heads.items));
  fits : All FitsRow (unpacked l.self-inside.replies.items (take l.head-index l.self-inside.heads.items));
}
