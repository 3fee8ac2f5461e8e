use Rattle.std.proofs.Common.{◌≡◌, ◌+◌, ◌++◌, take}
use Rattle.std.specs.Prelude.{vec_capacity, vec_len}
use Rattle.dstm_report.proofs.rendering.put_word.Given as goal

abbrev pub invariant-loop-byte : goal.invariant-loop-byte
invariant-loop-byte l = record {
  text : l.out.items ≡ l.initial.out.items ++ take l.byte-index l.word;
  len : vec_len l.out ≡ vec_len l.initial.out + l.byte-index;
  capacity : vec_capacity l.out ≡ vec_capacity l.initial.out;
}
