-- What a map has altogether: its items, and how many there are.
use Rattle.std.specs.Prelude.{◌≡◌, ◌≢◌, ◌⊎◌, ℕ, ◌<◌, ◌≤◌, List, ◌++◌, ◌∷◌, [], length, if◌then◌else◌, nat_lt, AllPairs, Contains, Option, None, Some}
use Rattle.dstm_model.specs.declared.value.Val.{Val}
use Rattle.dstm_structures.specs.Maps.{item_of, place_in, values_in}
use Rattle.dstm_structures.specs.Ordered.{TellsInOrder}
use Rattle.dstm_structures.specs.declared.map.HashMap.{HashMap}
use Rattle.dstm_structures.specs.declared.ordered.OrderedMap.{OrderedMap}

-- ---- place by place

-- the key that is found at a place was told, if one is, and nothing was set
pub record Stands {V : Type 0} (map : HashMap V) (at : ℕ) (answer : Option ℕ) (before after : List Val) : Type 0 where
  pub is : (key : ℕ) → place_in map.cells.first map.cells.capacity before key ≡ Some at → answer ≡ Some key
  pub there : (key : ℕ) → answer ≡ Some key → place_in map.cells.first map.cells.capacity before key ≡ Some at
  pub same : after ≡ before

-- items, and one more where a key is found
abbrev pub with_item : {V : Type 0} → List (ℕ × V) → Option ℕ → V → List (ℕ × V)
with_item items None value = items
with_item items (Some key) value = items ++ (key, value) ∷ []

-- an item, where its key is above this one
abbrev pub if_above : {V : Type 0} → ℕ → Option (ℕ × V) → Option (ℕ × V)
if_above key None = None
if_above key (Some entry) = if nat_lt key entry.0 then Some entry else None

module _ {V : Type 0} (found : Val → V) (map : HashMap V) where
  -- what is found at a place was added to these items
  pub record ListsPlace (at : ℕ) (old new : List (ℕ × V)) (before after : List Val) : Type 0 where
    pub key : Option ℕ
    pub stands : Stands map at key before after
    pub is : new ≡ with_item old key (values_in found map.cells.first before at)

  -- ---- what the calls do

  -- THESE ARE THE ITEMS OF A MAP, each once, and nothing was set
  pub record Lists (items : List (ℕ × V)) (before after : List Val) : Type 0 where
    pub all : (key : ℕ) (value : V) → item_of found map before key ≡ Some value → Contains items (key, value)
    pub only : (key : ℕ) (value : V) → Contains items (key, value) → item_of found map before key ≡ Some value
    pub once : AllPairs (λ one other. one.0 ≢ other.0) items
    pub same : after ≡ before

  -- SO MANY KEYS ARE THERE, and nothing was set
  pub record Counts (count : ℕ) (before after : List Val) : Type 0 where
    pub items : List (ℕ × V)
    pub lists : Lists items before after
    pub is : count ≡ length items

module _ {V : Type 0} (found : Val → V) (map : OrderedMap V) where
  -- these are the items of an ordered map, in the order of their keys
  pub record AreItems (items : List (ℕ × V)) (values : List Val) : Type 0 where
    pub all : (key : ℕ) (value : V) → item_of found map.map values key ≡ Some value → Contains items (key, value)
    pub only : (key : ℕ) (value : V) → Contains items (key, value) → item_of found map.map values key ≡ Some value
    pub rising : AllPairs (λ one other. one.0 < other.0) items

  -- THE ITEMS OF AN ORDERED MAP WERE TOLD, in the order of their keys, where its cells are in order, and nothing was set
  abbrev pub ListsInOrder : List (ℕ × V) → List Val → List Val → Type 0
  ListsInOrder items = TellsInOrder map (AreItems items)

  -- these are the first items of an ordered map above a key, so many at most, in the order of their keys: all, or all up to the
  -- last of them
  pub record AreItemsAbove (low most : ℕ) (items : List (ℕ × V)) (values : List Val) : Type 0 where
    pub few : length items ≤ most
    pub all : (key : ℕ) (value : V) → low < key → item_of found map.map values key ≡ Some value →
        Contains items (key, value)
        ⊎ ((length items ≡ most) × ((k : ℕ) (other : V) → Contains items (k, other) → k < key))
    pub only : (key : ℕ) (value : V) → Contains items (key, value) →
        (low < key) × (item_of found map.map values key ≡ Some value)
    pub rising : AllPairs (λ one other. one.0 < other.0) items

  -- THEY WERE TOLD, where the cells are in order, and nothing was set
  abbrev pub ListsAbove : (low most : ℕ) → List (ℕ × V) → List Val → List Val → Type 0
  ListsAbove low most items = TellsInOrder map (AreItemsAbove low most items)
