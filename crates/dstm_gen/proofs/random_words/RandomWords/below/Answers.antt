use Rattle.std.proofs.Common.{◌≡◌, ℕ, ap, ◌∙◌}
use Rattle.rand_pcg.specs.Lcg.{Lcg}
use Rattle.dstm_gen.specs.Words.{skip, words_of}
use Rattle.dstm_gen.proofs.Streams.{first_word, later_words}
use Rattle.dstm_gen.proofs.random_words.RandomWords.below.Goals as goal

pub returns-clause-value : goal.returns-clause-value
returns-clause-value c =
    let generator = c.self.inside.generator in
    let word : c.next_word.result ≡ words_of generator 0 =
    ap (λ (step : ℕ × Lcg). step.0) c.next_word.ensures ∙ first_word generator in
    cc

pub returns-clause-left : goal.returns-clause-left
returns-clause-left c =
    let generator = c.self.inside.generator in
    let words : words_of c.next_word.new.self ≡ skip 1 (words_of generator) =
    ap (λ (step : ℕ × Lcg). words_of step.1) c.next_word.ensures ∙ later_words generator in
    cc
