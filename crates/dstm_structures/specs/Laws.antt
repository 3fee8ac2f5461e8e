-- Words for laws over maps.
use Rattle.std.specs.Prelude.{◌⊎◌, ℕ, ◌≤◌, Option, None, Some}
use Rattle.dstm_structures.specs.Maps.{end_of}
use Rattle.dstm_structures.specs.declared.map.HashMap.{HashMap}

-- HOW OFTEN A MAP HAS A KEY, by what it has for it: once, or not at all
abbrev pub times : {V : Type 0} → Option V → ℕ
times None = 0
times (Some value) = 1

-- two maps have no cell in common
abbrev pub AreApart : {V W : Type 0} → HashMap V → HashMap W → Type 0
AreApart one other = (end_of one ≤ other.cells.first) ⊎ (end_of other ≤ one.cells.first)
