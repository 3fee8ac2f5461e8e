-- Private: the words of a closed table.
use Rattle.std.specs.Prelude.{◌≡◌, ◌≢◌, ℕ, ◌-◌, ◌*◌, ◌<◌, List, length, slice_index}
use Rattle.dstm_core.specs.Events.{Event}
use Rattle.dstm_core.specs.Left.{word_left}
use Rattle.dstm_core.specs.Runs.{Core}
use Rattle.dstm_core.specs.Traces.{at}
use Rattle.dstm_core.specs.Words.{IsValid, word_count}
use Rattle.dstm_core.specs.Words.Word.{OwnerWord}
use Rattle.dstm_core.specs.declared.shape.Shape.{Shape}

-- the words are what events of the machine leave
pub record AreLeft (shape : Shape) (words : List ℕ) : Type 0 where
  pub log : List Event
  pub core : Core shape log
  pub left : (p : ℕ) → p < word_count shape → slice_index words p ≡ at log p

-- these are all words of a table
pub record AreWords (shape : Shape) (words : List ℕ) : Type 0 where
  pub valid : IsValid shape
  pub wide : length words ≡ word_count shape

-- a version is the first one, or that of a locator
abbrev pub IsVersion : Shape → ℕ → Type 0
IsVersion shape v = v ≢ 0 → v - 1 < shape.callers * shape.locators

-- a locator has an owner
abbrev pub IsOwned : Shape → List ℕ → ℕ → Type 0
IsOwned shape words v = v ≢ 0 → word_left shape words (OwnerWord (v - 1)) < shape.callers * shape.attempts
