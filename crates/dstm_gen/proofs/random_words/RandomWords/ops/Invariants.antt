use Rattle.std.proofs.Common.{◌≡◌, map}
use Rattle.std.specs.List.{range_with_len}
use Rattle.dstm_gen.specs.Words.{words_of, Takes}
use Rattle.dstm_gen.specs.Generated.{op_at, op_place}
use Rattle.dstm_gen.proofs.random_words.RandomWords.ops.Given as goal

abbrev pub invariant-loop : goal.invariant-loop
invariant-loop l = record {
  ops : l.ops ≡ map (op_at (words_of l.fn.self)) (range_with_len 0 l.counter);
  left : Takes (op_place (words_of l.fn.self) l.counter) l.fn.self l.self;
}
