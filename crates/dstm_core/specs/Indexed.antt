-- Private: how the reads of an attempt are kept: every read that was recorded stays at its place, and the places of those that
-- are not dropped are known, in order and by object.
use Rattle.std.specs.Prelude.{◌≡◌, ℕ, ◌<◌, ◌≤◌, Bool, true, List, length, map, nat_lt, count_by, slice_index_or, Option, Some, None}
use Rattle.std.specs.List.{list_any}
use Rattle.std.specs.BTreeMap.{is_at}
use Rattle.std.specs.Map.{lookup}
use Rattle.std.specs.Ordering.{nat_cmp}
use Rattle.dstm_core.specs.declared.state.Read.{Read}
use Rattle.dstm_core.specs.State.{or_read}

-- the read at a place
abbrev pub read_at : List Read → ℕ → Read
read_at recorded p = slice_index_or recorded p (or_read None)

-- the reads at some places
abbrev pub reads_at : List Read → List ℕ → List Read
reads_at recorded places = map (read_at recorded) places

-- the place is among some
abbrev pub is_among : ℕ → List ℕ → Bool
is_among p places = list_any (is_at (nat_cmp p)) places

-- how many places stand before another one
abbrev pub count_before : ℕ → List ℕ → ℕ
count_before p places = count_by (λ q. nat_lt q p) places

-- the place that some entries give an object
abbrev pub place_of : ℕ → List (ℕ × ℕ) → Option ℕ
place_of o entries = lookup (is_at (nat_cmp o)) entries

-- the live places are places of reads, and the entries give each object the place of its read; so is where the next
-- look begins
pub record IsIndexed (recorded : List Read) (live : List ℕ) (entries : List (ℕ × ℕ)) (cursor : ℕ) : Type 0 where
  pub within : (p : ℕ) → is_among p live ≡ true → p < length recorded
  pub placed :
      (o p : ℕ)
      → place_of o entries ≡ Some p
      → (is_among p live ≡ true) × ((read_at recorded p).object ≡ o)
  pub found : (p : ℕ) → is_among p live ≡ true → place_of (read_at recorded p).object entries ≡ Some p
  pub begins : cursor ≤ length recorded
