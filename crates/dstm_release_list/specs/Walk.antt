-- What a walk that lets reads go has seen, may let go, and keeps.
use Rattle.std.specs.Prelude.{◌≡◌, ◌≢◌, ℕ, ◌≤◌, List, length, Contains, IsTrue, false, None, Some, Option, IsSome, ◌⊎◌}
use Rattle.std.specs.Option.{option_or}
use Rattle.dstm_model.specs.declared.value.Val.{Val}
use Rattle.dstm_model.specs.declared.reply.Reply.{Reply}
use Rattle.dstm_model.specs.declared.reply.Reply.TheVariants as reply
use Rattle.dstm_model.specs.Objects.{node_object}
use Rattle.dstm_mem.specs.declared.memory.Mem.{Ghosts}
use Rattle.dstm_mem.specs.Memory.{HoldsAlso, MarksAtMost}
use Rattle.dstm_region.specs.declared.region.Region.{Region}
use Rattle.dstm_list.specs.List.{key_of, next_of}
use Rattle.dstm_list.specs.Reads.{IsRead}
use Rattle.dstm_list.specs.declared.walk.Place.{Place}
use Rattle.dstm_release_list.specs.declared.stop.Stop.{Stop}

-- the value that the memory holds or has set for the stop's object is the one that the stop has
pub record Sees {S E : Type 0} (M : Ghosts S E) (memory : S) (stop : Stop) : Type 0 where
  pub value : Val
  pub found : Some value ≡ option_or (M.written memory stop.object) (M.held memory stop.object)
  pub key : stop.node.key ≡ key_of value
  pub next : stop.node.next ≡ next_of value

-- The object was opened for reading, and the stop has what was found. Its read is the walk's own if the object was
-- not held; else it was a read before, or it is opened for writing.
pub record Visits {S E : Type 0} (M : Ghosts S E) (old new : S) (o : ℕ) (stop : Stop) : Type 0 where
  pub object : stop.object ≡ o
  pub sees : Sees M new stop
  pub own : IsTrue stop.is_own → M.held old o ≡ None
  pub other : stop.is_own ≡ false → IsRead M old o ⊎ IsTrue (M.is_opened new o)
  pub held : HoldsAlso o (M.held old) (M.held new)
  pub opened : MarksAtMost o (M.is_opened old) (M.is_opened new)

-- the object is that of a stop whose read is the walk's own
abbrev pub IsOwn : Stop → ℕ → Type 0
IsOwn stop o = (o ≡ stop.object) × IsTrue stop.is_own

abbrev pub IsOwnOfTwo : Stop → Option Stop → ℕ → Type 0
IsOwnOfTwo head None o = ⊥
IsOwnOfTwo head (Some older) o = IsOwn older o ⊎ IsOwn head o

-- reads of these objects are let go, and nothing else is changed
pub record LetsGo {S E : Type 0} (M : Ghosts S E) (Own : ℕ → Type 0) (old new : S) : Type 0 where
  pub held : (p : ℕ) → (M.held new p ≡ M.held old p) ⊎ (Own p × (M.held new p ≡ None))
  pub written : (p : ℕ) → M.written new p ≡ M.written old p
  pub opened : (p : ℕ) → M.is_opened new p ≡ M.is_opened old p
  pub place : M.place new ≡ M.place old
  pub objects : M.objects new ≡ M.objects old
  pub widens : (map : List Val) → M.Admits old map → M.Admits new map
  pub live : IsTrue (M.is_live new)

-- The reads that a walk to a place adds are at most those of the object that links to the place, of the head, and of
-- one object more, which is the node that holds the key where there is one.
pub record AddsToPlace {S E : Type 0} (M : Ghosts S E) (region : Region) (old new : S) (place : Place) : Type 0 where
  pub other : ℕ
  pub node : IsSome place.node → other ≡ node_object region.first place.before.next
  pub each : (p : ℕ) → p ≢ place.link → p ≢ region.first → p ≢ other → IsRead M new p → IsSome (M.held old p)

-- at most so many objects are reads now that were not held before
pub record AddsAtMost {S E : Type 0} (most : ℕ) (M : Ghosts S E) (old new : S) : Type 0 where
  pub objects : List ℕ
  pub few : length objects ≤ most
  pub each : (p : ℕ) → IsRead M new p → IsSome (M.held old p) ⊎ Contains objects p

-- How many reads an insertion with this reply adds at most: the three of its walk. Where it answers Full it adds that
-- of the head of the free chain, too. Where it answers Yes, the object that links to the new node is opened for
-- writing, and is no read.
abbrev pub most_of_insert : Reply → ℕ
most_of_insert reply.Full = 4
most_of_insert reply.Yes = 2
most_of_insert r = 3

-- The same of a removal: where it answers Yes, the key's node is opened for writing, too, and the head alone is left.
abbrev pub most_of_remove : Reply → ℕ
most_of_remove reply.Yes = 1
most_of_remove r = 3
