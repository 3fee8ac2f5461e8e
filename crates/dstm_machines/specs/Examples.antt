-- How an example of a run is written: events as rows, and values.
use Rattle.std.specs.Prelude.{ℕ, List, [], ◌∷◌}
use Rattle.dstm_machines.specs.declared.event.Event.{Event}
use Rattle.dstm_model.specs.declared.value.Val.{Val}

-- a value of these two parts
abbrev pub val : ℕ → ℕ → Val
val low high = record { low = low; high = high }

-- K: what events are for
module _ {K : Type 0} where
  -- an event of a caller, as a row: its kind, the place of its word, the word expected, the one found and the one put
  abbrev pub event : (caller : ℕ) → K × ℕ × ℕ × ℕ × ℕ → Event K
  event caller row =
      record { caller = caller; kind = row.0; place = row.1; expected = row.2; found = row.3; put = row.4 }

  -- some events of a caller, the oldest first
  abbrev pub events : (caller : ℕ) → List (K × ℕ × ℕ × ℕ × ℕ) → List (Event K)
  events caller [] = []
  events caller (row ∷ rows) = event caller row ∷ events caller rows
