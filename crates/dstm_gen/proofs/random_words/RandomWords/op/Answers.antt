use Rattle.std.proofs.Common.{ℕ, ◌+◌, ap, ◌∙◌}
use Rattle.dstm_model.specs.declared.op.Op.{Op}
use Rattle.dstm_gen.specs.Words.{skip, words_of}
use Rattle.dstm_gen.specs.Generated.{numbers_of}
use Rattle.dstm_gen.proofs.Streams.{word_after, takes_more}
use Rattle.dstm_gen.proofs.random_words.RandomWords.op.Goals as goal

pub returns-clause-value : goal.returns-clause-value
returns-clause-value c =
    let word = λ (k : ℕ). word_after 1 k c.args.self.now c.below-form.new.self c.below-form.ensures.left in
    let first = word 0 in
    let second = word 1 in
    let third = word 2 in
    cc

pub returns-clause-left : goal.returns-clause-left
returns-clause-left c =
    let before = c.args.self.now in
    let size = numbers_of c.op_of_form.result in
    let one = c.below-form.new.self in
    let after = c.op_of_form.new.self in
    takes_more 1 size before one after c.below-form.ensures.left c.op_of_form.ensures.left
    ∙ ap (λ (op : Op). skip (1 + numbers_of op) (words_of before)) (returns-clause-value c)
