-- Plain decimals: one spelling for each number.
use Rattle.std.specs.Prelude.{◌≡◌, ◌⊎◌, ℕ, ◌+◌, ◌^◌, ◌<◌, ◌≤◌, Bool, false, not, ◌==◌, ◌&&◌, ◌||◌, nat_le, List, [], length, take, drop, slice_index}
use Rattle.std.specs.Prelude.{◌∷◌, Option, Some, None, Result, Ok, Err, if◌then◌else◌}
use Rattle.std.specs.Str.{all_ascii_digits}
use Rattle.std.specs.Str.Parse.{digits_value}
use Rattle.std.specs.Int.{IsInRange}
use Rattle.dstm_text.specs.Lines.{is_empty, space}
use Rattle.dstm_text.specs.declared.number.DecimalError.{DecimalError}
use Rattle.dstm_text.specs.declared.number.DecimalError.TheVariants.{NotPlain, TooLarge}

-- `0`, or a digit from 1 to 9 and further digits
abbrev pub is_plain : List ℕ → Bool
is_plain [] = false
is_plain (d ∷ ds) = all_ascii_digits (d ∷ ds) && (not (d == 48) || is_empty ds)

-- the number that a field spells, of any size
abbrev pub number_of : List ℕ → Option ℕ
number_of field = if is_plain field then Some (digits_value 10 field) else None

-- the number where there is one that 64 bits hold
abbrev pub in_64_bits : Option ℕ → Result ℕ DecimalError
in_64_bits None = Err NotPlain
in_64_bits (Some n) = if nat_le (2 ^ 64) n then Err TooLarge else Ok n

-- so many digits of a number are at the front of a line
pub record AreAtFront (line : List ℕ) (count number : ℕ) : Type 0 where
  pub within : count ≤ length line
  pub digits : (k : ℕ) → k < count → IsInRange 48 57 (slice_index line k)
  pub value : number ≡ digits_value 10 (take count line)
  pub small : number < 10 ^ count
  pub few : count ≤ 19

-- a number is spelled at the front of a line, before a space or the line's end
pub record StandsBeforeSpace (line : List ℕ) (place number : ℕ) : Type 0 where
  pub front : AreAtFront line place number
  pub some : 0 < place
  pub behind : place < length line → slice_index line place ≡ space
  pub spelled : number_of (take place line) ≡ Some number

-- what stands behind a place of a line, where it ends or has a space
abbrev pub StandsBehind : List ℕ → ℕ → List ℕ → Type 0
StandsBehind line place rest =
    ((place ≡ length line) × (rest ≡ []))
    ⊎ ((place < length line) × ((slice_index line place ≡ space) × (rest ≡ drop (place + 1) line)))

-- a number is spelled at the front of a line, and what stands behind the place where it ends
abbrev pub IsNumberBefore : List ℕ → ℕ → List ℕ → Type 0
IsNumberBefore line number rest =
    (place : ℕ) × (StandsBeforeSpace line place number × StandsBehind line place rest)
