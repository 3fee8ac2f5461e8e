-- The objects that attempts open.
use Rattle.std.specs.Prelude.{ℕ, ◌<◌, List, All}
use Rattle.dstm_core.specs.declared.shape.Shape.{Shape}

-- each is an object of the table
abbrev pub Exist : Shape → List ℕ → Type 0
Exist shape places = All (λ o. o < shape.objects) places
