-- The values that the objects of a layout are opened with.
use Rattle.std.specs.Prelude.{ℕ, zero, suc, List, [], ◌∷◌, ◌++◌, map, replicate}
use Rattle.std.specs.List.{range_with_len}
use Rattle.dstm_model.specs.declared.value.Val.{Val}
use Rattle.dstm_model.specs.declared.layout.Layout.{Layout}
use Rattle.dstm_model.specs.Objects.{plain}

-- a structure with room for n keys that holds none: its head is 0, the head of its free chain is 1, and
-- each node names the next one, the last none
abbrev pub opening_structure : ℕ → List Val
opening_structure zero = []
opening_structure (suc n) = (plain 0 ∷ map plain (range_with_len 1 (suc n))) ++ plain 0 ∷ []

-- every balance is the opening balance, and both structures are empty
abbrev pub opening_values : Layout → List Val
opening_values layout =
    replicate layout.accounts (plain layout.opening) ++ opening_structure layout.list ++ opening_structure layout.tree
