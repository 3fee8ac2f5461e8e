-- Private: the values that the words of a table tell, as a list of its words.
use Rattle.std.specs.Prelude.{ℕ, ◌-◌, ◌==◌, List, slice_index, if◌then◌else◌}
use Rattle.dstm_model.specs.declared.value.Val.{Val}
use Rattle.dstm_model.specs.Map.{value_at}
use Rattle.dstm_core.specs.declared.shape.Shape.{Shape}
use Rattle.dstm_core.specs.declared.status.Status.TheVariants as status
use Rattle.dstm_core.specs.Words.{Word, code_of, place}
use Rattle.dstm_core.specs.Words.Word.{ObjectWord, StatusWord, OwnerWord, OldWord, LowWord, HighWord}

-- what a word holds
abbrev pub word_left : Shape → List ℕ → Word → ℕ
word_left shape words w = slice_index words (place shape w)

-- the version that an object's word x stands for
abbrev pub version_left : Shape → List ℕ → ℕ → ℕ
version_left shape words x =
    if x == 0 then 0
    else if word_left shape words (StatusWord (word_left shape words (OwnerWord (x - 1)))) == code_of status.Committed
    then x
    else word_left shape words (OldWord (x - 1))

-- the value of a version of object o
abbrev pub version_value_left : Shape → List Val → List ℕ → ℕ → ℕ → Val
version_value_left shape start words o v =
    if v == 0 then value_at start o
    else record {
      low = word_left shape words (LowWord (v - 1));
      high = word_left shape words (HighWord (v - 1));
    }

-- the current value of object o
abbrev pub value_left : Shape → List Val → List ℕ → ℕ → Val
value_left shape start words o =
    version_value_left shape start words o (version_left shape words (word_left shape words (ObjectWord o)))
