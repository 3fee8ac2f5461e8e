use Rattle.std.proofs.Common.{◌≡◌, ◌≤◌, length, take}
use Rattle.std.specs.Prelude.{vec_capacity}
use Rattle.dstm_report.specs.Packed.{unpacked}
use Rattle.dstm_report.proofs.packed.PackedRows.unpack.Given as goal

abbrev pub invariant-loop-head : goal.invariant-loop-head
invariant-loop-head l = record {
  rows : l.rows.items ≡ unpacked l.self-inside.replies.items (take l.head-index l.self-inside.heads.items);
  len : l.rows.len ≡ l.head-index;
  room : length l.self-inside.heads.items ≤ vec_capacity l.rows;
}
