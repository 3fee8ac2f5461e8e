-- Values in a circle of places.
use Rattle.std.specs.Prelude.{ℕ, zero, suc, ◌+◌, ◌-◌, if◌then◌else◌, nat_lt, List, [], ◌∷◌}

-- the place behind this one of n
abbrev pub next : ℕ → ℕ → ℕ
next n at = if nat_lt (at + 1) n then at + 1 else 0

-- the place so many behind this one
abbrev pub behind : ℕ → ℕ → ℕ → ℕ
behind n at count = if nat_lt (at + count) n then at + count else at + count - n

-- what so many places hold from this one on
abbrev pub held_from : {T : Type 0} → ℕ → (ℕ → T) → ℕ → ℕ → List T
held_from n held at zero = []
held_from n held at (suc count) = held at ∷ held_from n held (next n at) count
