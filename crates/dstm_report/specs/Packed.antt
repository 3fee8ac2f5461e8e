-- Rows whose replies stand one behind another, and how they are kept.
use Rattle.std.specs.Prelude.{ℕ, ◌+◌, ◌*◌, ◌≤◌, List, length, map, All, slice_range, vec_capacity}
use Rattle.dstm_model.specs.declared.reply.Reply.{Reply}
use Rattle.dstm_report.specs.declared.packed.Head.{Head}
use Rattle.dstm_report.specs.declared.packed.PackedRows.TheInside.{Inside}
use Rattle.dstm_report.specs.declared.report.Row.{Row}

pub record RowsAs : Type 0 where
  pub items : List Row  -- the rows, in order
  pub room : ℕ  -- for how many rows there is room

-- the row that a head stands for, among the replies of all rows
abbrev pub unpacked_by : List Reply → Head → Row
unpacked_by replies head = record {
  line = head.line;
  worker = head.worker;
  round = head.round;
  number = head.number;
  replies = slice_range replies head.from (head.from + head.count);
}

abbrev pub unpacked : List Reply → List Head → List Row
unpacked replies heads = map (unpacked_by replies) heads

-- at most 8 replies, among the first so many
pub record IsWithin (all : ℕ) (head : Head) : Type 0 where
  pub few : head.count ≤ 8
  pub below : head.from + head.count ≤ all

-- each row's replies stand among the others, and those of so many rows have room
pub record ArePacked (rows : Inside) : Type 0 where
  pub within : All (IsWithin (length rows.replies.items)) rows.heads.items
  pub room_for_heads : rows.room ≤ vec_capacity rows.heads
  pub room_for_replies : length rows.replies.items + 8 * rows.room ≤ vec_capacity rows.replies + 8 * length rows.heads.items
