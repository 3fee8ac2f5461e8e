-- Private: the words of a closed table.
use Rattle.std.specs.Prelude.{ℕ, ◌+◌, ◌*◌, List, slice_index}
use Rattle.dstm_model.specs.declared.value.Val.{Val}

-- the value that the words of object o tell, of a table of so many objects
abbrev pub value_left : (objects : ℕ) → (words : List ℕ) → ℕ → Val
value_left objects words o = record {
  low = slice_index words (objects + o);
  high = slice_index words (2 * objects + o);
}
