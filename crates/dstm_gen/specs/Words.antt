-- Streams of words, numbered from 0, and those of a generator.
use Rattle.std.specs.Prelude.{◌≡◌, ℕ, ◌+◌}
use Rattle.rand_core.specs.Pcg32Seed.{pcg32_seed}
use Rattle.rand_pcg.specs.Lcg.{Lcg, advance}
use Rattle.rand_pcg.specs.Pcg.{multiplier_64, pcg32, pcg32_of_seed}

-- the stream without its first n words
unfoldable pub skip : ℕ → (ℕ → ℕ) → ℕ → ℕ
skip n words k = words (n + k)

-- the outputs of a generator: word k is the one that it gives after k steps
unfoldable pub words_of : Lcg → ℕ → ℕ
words_of generator k = (pcg32 (advance 64 multiplier_64 k generator)).0

-- the words of the generator that a seed gives
unfoldable pub words_of_seed : ℕ → ℕ → ℕ
words_of_seed seed = words_of (pcg32_of_seed (pcg32_seed 16 seed))

-- so many words of a generator are taken
abbrev pub Takes : ℕ → (before after : Lcg) → Type 0
Takes n before after = words_of after ≡ skip n (words_of before)
