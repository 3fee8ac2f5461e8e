-- Counts that are kept in 64 bits and stand still at the last number.
use Rattle.std.specs.Prelude.{◌≡◌, ◌⊎◌, ℕ, ◌+◌, ◌-◌, ◌^◌, ◌<◌, ◌≤◌, min}

-- the count after one more
abbrev pub next_count : ℕ → ℕ
next_count count = min (count + 1) (2 ^ 64 - 1)

-- a count rose: it is greater than before, or it stands at the last number
pub record Rises (old new : ℕ) : Type 0 where
  pub no_less : old ≤ new
  pub rose : (old < new) ⊎ (new ≡ 2 ^ 64 - 1)
  pub bounded : new < 2 ^ 64
