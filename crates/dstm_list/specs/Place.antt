-- Where a walk along the list stands, the place of a key, and what is seen and changed there.
use Rattle.std.specs.Prelude.{◌≡◌, ℕ, ◌<◌, List, [], ◌∷◌, ◌++◌, Option, Some, None, IsTrue, slice_set}
use Rattle.dstm_model.specs.declared.value.Val.{Val}
use Rattle.dstm_model.specs.Map.{value_at}
use Rattle.dstm_model.specs.Objects.{node_object}
use Rattle.dstm_mem.specs.declared.memory.Mem.{Ghosts}
use Rattle.dstm_mem.specs.Memory.{with_set}
use Rattle.dstm_region.specs.declared.region.Region.{Region}
use Rattle.dstm_region.specs.Region.{IsInside, IsWithin}
use Rattle.dstm_list.specs.declared.node.Node.{Node}
use Rattle.dstm_list.specs.declared.walk.Place.{Place}
use Rattle.dstm_list.specs.List.{Cell, HasKeys, numbers_of, first_of, key_of, next_of}

-- the object that links to what comes after these cells: that of the last one, or the given one where
-- there is none
abbrev pub link_after : ℕ → ℕ → List Cell → ℕ
link_after begin object [] = object
link_after begin object (c ∷ cs) = link_after begin (node_object begin c.number) cs

-- the key of the last cell, or the given one where there is none
abbrev pub key_after : ℕ → List Cell → ℕ
key_after key [] = key
key_after key (c ∷ cs) = key_after c.key cs

abbrev pub AllLess : ℕ → List Cell → Type 0
AllLess key [] = Unit {0}
AllLess key (c ∷ cs) = (c.key < key) × AllLess key cs

abbrev pub AllGreater : ℕ → List Cell → Type 0
AllGreater key [] = Unit {0}
AllGreater key (c ∷ cs) = (key < c.key) × AllGreater key cs

-- a walk for a key that has lesser keys behind it, at the object with this node, which links to the cells
-- ahead
pub record Stands (begin key object : ℕ) (before : Node) (cells : List Cell) : Type 0 where
  pub behind : List Cell
  pub ahead : List Cell
  pub split : cells ≡ behind ++ ahead
  pub lesser : AllLess key behind
  pub link : object ≡ link_after begin begin behind
  pub last : before.key ≡ key_after 0 behind
  pub next : before.next ≡ first_of (numbers_of ahead)

-- the key is in the first cell, whose node this is, or it is in none and all keys are greater
abbrev pub IsFirst : ℕ → Option Node → List Cell → Type 0
IsFirst key None cells = AllGreater key cells
IsFirst key (Some node) [] = ⊥
IsFirst key (Some node) (c ∷ cs) = (c.key ≡ key) × (node.next ≡ first_of (numbers_of cs))

-- the place of a key among the cells
pub record IsPlace (begin key : ℕ) (place : Place) (cells : List Cell) : Type 0 where
  pub stands : Stands begin key place.link place.before cells
  pub here : IsFirst key place.node stands.ahead

-- the place is the key's, in each list that the map stands for
abbrev pub Finds : Region → List Val → ℕ → Place → Type 0
Finds region values key place =
    (held : List ℕ) (list : HasKeys region values held) → IsPlace region.first key place list.cells

-- the place of a key was found, and nothing was changed
pub record Walks (region : Region) (key : ℕ) (place : Place) (before after : List Val) : Type 0 where
  pub same : after ≡ before
  pub finds : Finds region before key place

-- the memory is live and has the region's objects, and in each map that it admits, with what is set, they hold keys
pub record IsReadyIn {S E : Type 0} (M : Ghosts S E) (region : Region) (memory : S) : Type 0 where
  pub objects : IsWithin region (M.objects memory)
  pub live : IsTrue (M.is_live memory)
  pub lawful : (map : List Val) → M.Admits memory map →
      (held : List ℕ) × HasKeys region (with_set map (M.written memory)) held

-- The memory is ready for a change at this place: it admits a map, and in each that it admits the place is the key's.
pub record IsReadyAt {S E : Type 0} (M : Ghosts S E) (region : Region) (key : ℕ) (place : Place) (memory : S) : Type
    0 where
  pub ready : IsReadyIn M region memory
  pub admits : (map : List Val) × M.Admits memory map
  pub found : (map : List Val) → M.Admits memory map → Finds region (with_set map (M.written memory)) key place
  pub link : IsInside region place.link

-- an object was seen to hold this node, and nothing was changed
pub record Sees (object : ℕ) (node : Node) (before after : List Val) : Type 0 where
  pub key : node.key ≡ key_of (value_at before object)
  pub next : node.next ≡ next_of (value_at before object)
  pub same : after ≡ before

-- an object was given a value, and had this one
pub record Replaces (object : ℕ) (value found : Val) (before after : List Val) : Type 0 where
  pub had : value_at before object ≡ found
  pub set : after ≡ slice_set before object value
