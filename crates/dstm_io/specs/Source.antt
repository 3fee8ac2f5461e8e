-- What is taken from a source. The bytes that are left are `None` at a source that does not tell them.
use Rattle.std.specs.Prelude.{◌≡◌, ℕ, ◌≤◌, List, [], length, drop, Option, Some, None, ⊤}

-- so many of the bytes that were left were taken, from the first on
abbrev pub Takes : Option (List ℕ) → Option (List ℕ) → ℕ → Type 0
Takes None new count = ⊤
Takes (Some left) new count = (count ≤ length left) × (new ≡ Some (drop count left))

abbrev pub TakesAtMost : Option (List ℕ) → Option (List ℕ) → ℕ → Type 0
TakesAtMost old new limit = (count : ℕ) × (count ≤ limit) × Takes old new count

-- these are all the bytes that were left, and none is left now
abbrev pub TakesAll : Option (List ℕ) → Option (List ℕ) → List ℕ → Type 0
TakesAll None new bytes = ⊤
TakesAll (Some left) new bytes = (bytes ≡ left) × (new ≡ Some [])
