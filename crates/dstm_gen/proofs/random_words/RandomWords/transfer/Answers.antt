use Rattle.dstm_gen.specs.Words.{Takes}
use Rattle.dstm_gen.proofs.Streams.{word_after, takes_more}
use Rattle.dstm_gen.proofs.random_words.RandomWords.transfer.Goals as goal

pub returns-clause-value : goal.returns-clause-value
returns-clause-value c =
    let before = c.args.self.now in
    let one = c.below-source.new.self in
    let two = c.below-target.new.self in
    let both : Takes 2 before two =
    takes_more 1 1 before one two c.below-source.ensures.left c.below-target.ensures.left in
    let second = word_after 1 0 before one c.below-source.ensures.left in
    let third = word_after 2 0 before two both in
    cc

pub returns-clause-left : goal.returns-clause-left
returns-clause-left c =
    let before = c.args.self.now in
    let one = c.below-source.new.self in
    let two = c.below-target.new.self in
    let both = takes_more 1 1 before one two c.below-source.ensures.left c.below-target.ensures.left in
    takes_more 2 1 before two c.below-amount.new.self both c.below-amount.ensures.left
