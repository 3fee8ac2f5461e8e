-- Streams of words without their first ones.
use Rattle.std.proofs.Common.{◌≡◌, ℕ, suc, ◌+◌, refl, sym, ap, ◌∙◌, add_assoc, zero-add, arith}
use Rattle.std.proofs.Math.Path.{fun_ext}
use Rattle.rand_pcg.specs.Lcg.{Lcg, state_after}
use Rattle.rand_pcg.specs.Pcg.{pcg32}
use Rattle.dstm_gen.specs.Words.{skip, words_of, Takes}

pub skip_at : (n k : ℕ) (words : ℕ → ℕ) → skip n words k ≡ words (n + k)
unfolding skip
skip_at n k words = refl

pub skip-zero : (words : ℕ → ℕ) → skip 0 words ≡ words
unfolding skip
skip-zero words = fun_ext (λ k. ap words (zero-add k))

pub skip-skip : (m n : ℕ) (words : ℕ → ℕ) → skip m (skip n words) ≡ skip (n + m) words
unfolding skip
skip-skip m n words = fun_ext (λ k. ap words (sym (add_assoc n m k)))

-- a generator gives its words one after the other
pub first_word : (generator : Lcg) → (pcg32 generator).0 ≡ words_of generator 0
unfolding words_of state_after
first_word generator = refl

pub later_words : (generator : Lcg) → words_of (pcg32 generator).1 ≡ skip 1 (words_of generator)
unfolding words_of skip state_after
later_words generator = fun_ext (λ k. let next : suc k ≡ 1 + k = omega arith in ap (words_of generator) next)

-- ---- words that are taken

pub word_after : (n k : ℕ) (before after : Lcg) → Takes n before after →
    words_of after k ≡ words_of before (n + k)
word_after n k before after taken = ap (λ (words : ℕ → ℕ). words k) taken ∙ skip_at n k (words_of before)

pub takes_none : (generator : Lcg) → Takes 0 generator generator
takes_none generator = sym (skip-zero (words_of generator))

pub takes_more : (n m : ℕ) (a b c : Lcg) → Takes n a b → Takes m b c → Takes (n + m) a c
takes_more n m a b c first more = more ∙ ap (skip m) first ∙ skip-skip m n (words_of a)

-- what is taken behind a place of a stream, where its size is told by what the stream has there
pub takes_next :
    (place : ℕ) (size : (ℕ → ℕ) → ℕ) (a b c : Lcg) → Takes place a b → Takes (size (words_of b)) b c →
    Takes (place + size (skip place (words_of a))) a c
takes_next place size a b c first more =
    takes_more place (size (words_of b)) a b c first more
    ∙ ap (λ (words : ℕ → ℕ). skip (place + size words) (words_of a)) first
