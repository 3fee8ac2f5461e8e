use Rattle.std.proofs.Common.{◌≡◌, ℕ, ap, ◌∙◌, sym, arith, map, length}
use Rattle.std.specs.List.{range_with_len}
use Rattle.std.proofs.lemmas.List.FromFn.{length-map-range_with_len}
use Rattle.dstm_gen.specs.Words.{skip, words_of}
use Rattle.dstm_gen.specs.Generated.{op_of, op_at, op_size, op_place, ops_count}
use Rattle.dstm_gen.proofs.Streams.{takes_next}
use Rattle.dstm_gen.proofs.Places.{op_place-more, one_more}
use Rattle.dstm_gen.proofs.random_words.RandomWords.ops.Goals as goal

pub loop-init : goal.loop-init
unfolding op_place
loop-init c = record { ops = c.new-ops.ensures; left = c.below-count.ensures.left }

pub push-requires : goal.push-requires
push-requires c =
    let words = words_of c.args.self.now in
    let size = ap length c.loop.invariant.ops ∙ length-map-range_with_len (op_at words) 0 c.loop.counter in
    omega (arith, size, c.below-count.ensures.value)

pub loop-preserved : goal.loop-preserved
loop-preserved c =
    let before = c.args.self.now in
    let words = words_of before in
    let k = c.loop.counter in
    let so_far = c.loop.invariant in
    record {
      ops = one_more (op_at words) c.loop.ops c.push.new.self c.op.result k so_far.ops
          (c.op.ensures.value ∙ ap op_of so_far.left) c.push.ensures;
      left = takes_next (op_place words k) op_size before c.loop.self c.op.new.self
          so_far.left c.op.ensures.left
          ∙ ap (λ (n : ℕ). skip n words) (sym (op_place-more words k));
    }

-- the loop ends with all operations
all_taken : (c : goal.After-loop) → c.loop.counter ≡ ops_count (words_of c.args.self.now)
all_taken c = omega (arith, c.below-count.ensures.value)

pub returns-clause-value : goal.returns-clause-value
returns-clause-value c =
    let words = words_of c.args.self.now in
    c.loop.invariant.ops ∙ ap (λ (n : ℕ). map (op_at words) (range_with_len 0 n)) (all_taken c)

pub returns-clause-left : goal.returns-clause-left
returns-clause-left c =
    let words = words_of c.args.self.now in
    c.loop.invariant.left ∙ ap (λ (n : ℕ). skip (op_place words n) words) (all_taken c)
