-- Keys at places in a circle.
use Rattle.std.specs.Prelude.{◌≡◌, ℕ, zero, suc, ◌+◌, ◌<◌, ◌==◌, Bool, true, false, if◌then◌else◌, nat_lt, Option, None, Some}
use Rattle.dstm_structures.specs.Circles.{behind}

-- a place holds this key
abbrev pub is_key : ℕ → Option ℕ → Bool
is_key key None = false
is_key key (Some held) = held == key

-- where a key is found: at the first one of so many places that holds it, from the one so far behind its home on
abbrev pub find : (n : ℕ) (held : ℕ → Option ℕ) (key home passed left : ℕ) → Option ℕ
find n held key home passed zero = None
find n held key home passed (suc left) =
    if is_key key (held (behind n home passed)) then Some (behind n home passed) else find n held key home (passed + 1) left

-- A place is free for keys of this home: it holds no key; or, beyond the places at which they are looked for, one of the same
-- home, which nobody finds.
abbrev pub is_free : (homes : ℕ → ℕ) (home : ℕ) (beyond : Bool) → Option ℕ → Bool
is_free homes home beyond None = true
is_free homes home beyond (Some held) = if beyond then homes held == home else false

-- of the places from a home on, so many are not free; keys of this home are looked for at so many
abbrev pub AreTaken : (n : ℕ) (homes : ℕ → ℕ) (held : ℕ → Option ℕ) (home reach passed : ℕ) → Type 0
AreTaken n homes held home reach passed =
    (j : ℕ) → j < passed → is_free homes home (if nat_lt j reach then false else true) (held (behind n home j)) ≡ false
