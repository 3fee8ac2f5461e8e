-- The value of what is found of an object.
use Rattle.std.specs.Prelude.{◌≡◌, ℕ, ◌==◌, if◌then◌else◌}
use Rattle.dstm_core.specs.Histories.{version_value}
use Rattle.dstm_model.specs.Map.{value_at}
use Rattle.dstm_model.specs.declared.value.Val.{Val}
use Rattle.dstm_words.specs.Seats.{Home, view_of}
use Rattle.dstm_steps.specs.declared.resolving.Found.{Found}
use Rattle.dstm_steps.specs.declared.steps.Steps.{Steps}

-- the value that was found of an object, which had this one first
abbrev pub found_value : Found → (first : Val) → Val
found_value found first = if found.version == 0 then first else record { low = found.low; high = found.high }

-- it is that of the version found, as the seat's log tells
abbrev pub HasValue : {L : Type 0} → Home L → Steps L → (object : ℕ) → Found → Type 0
HasValue home steps object found =
    version_value home.terms.shape home.terms.start.value.items (view_of steps.seat).log object found.version
    ≡ found_value found (value_at home.terms.start.value.items object)
