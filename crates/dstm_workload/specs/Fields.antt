-- Reading the fields of a line from the left: what was read, with the fields after it, or the reason
-- of the first fault.
use Rattle.std.specs.Prelude.{ℕ, Bool, true, nat_le, ◌&&◌, List, [], ◌∷◌, Option, Some}
use Rattle.std.specs.Prelude.{None, Result, Ok, Err, codes, if◌then◌else◌}
use Rattle.std.specs.Str.{bytes_eq}
use Rattle.dstm_text.specs.Number.{number_of}
use Rattle.dstm_text.specs.Results.{◌>>=◌}
use Rattle.dstm_workload.specs.declared.refused.Why.{Why}
use Rattle.dstm_workload.specs.declared.refused.Why.TheVariants.{Missing, Extra, Number, OutOfRange, Undeclared}

abbrev pub in_range : ℕ → ℕ → Option ℕ → Result ℕ Why
in_range least most None = Err Number
in_range least most (Some n) = if nat_le least n && nat_le n most then Ok n else Err OutOfRange

-- a number
abbrev pub number_at : ℕ → ℕ → List (List ℕ) → Result (ℕ × List (List ℕ)) Why
number_at least most [] = Err Missing
number_at least most (field ∷ fields) = do
  n ← in_range least most (number_of field)
  Ok (n, fields)

-- a number of an operation, which a semicolon ends
abbrev pub operand_at : ℕ → ℕ → List (List ℕ) → Result (ℕ × List (List ℕ)) Why
operand_at least most [] = Err Missing
operand_at least most (field ∷ fields) =
    if bytes_eq field (codes ";") then Err Missing else number_at least most (field ∷ fields)

-- the end of the line
abbrev pub end_at : List (List ℕ) → Result (List (List ℕ)) Why
end_at [] = Ok []
end_at (field ∷ fields) = Err Extra

-- what has to be declared
abbrev pub declared : {A : Type 0} → Option A → Result A Why
declared None = Err Undeclared
declared (Some x) = Ok x

-- what has to be so is so
abbrev pub met_by : Bool → Result Bool Why
met_by met = if met then Ok true else Err Undeclared
