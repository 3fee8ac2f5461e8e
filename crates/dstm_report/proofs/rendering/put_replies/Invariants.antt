use Rattle.std.proofs.Common.{◌≡◌, ◌+◌, ◌*◌, ◌≤◌, ◌++◌, take}
use Rattle.std.specs.Prelude.{vec_capacity, vec_len}
use Rattle.std.specs.List.{flat_map}
use Rattle.dstm_report.specs.Text.{further_text}
use Rattle.dstm_report.proofs.rendering.put_replies.Given as goal

abbrev pub invariant-loop-reply : goal.invariant-loop-reply
invariant-loop-reply l = record {
  text : l.out.items ≡ l.initial.out.items ++ flat_map further_text (take l.reply-index l.further);
  len : vec_len l.out ≤ vec_len l.initial.out + 25 * l.reply-index;
  capacity : vec_capacity l.out ≡ vec_capacity l.initial.out;
}
