-- What the calls on an ordered map do, by what its cells hold.
use Rattle.std.specs.Prelude.{◌≡◌, ◌≢◌, ◌⊎◌, ℕ, ◌+◌, ◌*◌, ◌<◌, ◌≤◌, Bool, true, false, List, Option, None, Some, is_some}
use Rattle.dstm_model.specs.declared.value.Val.{Val}
use Rattle.dstm_model.specs.Map.{value_at}
use Rattle.dstm_structures.specs.Added.{AddsCells}
use Rattle.dstm_structures.specs.Maps.{Tells, WastesNone, item_of, key_at, place_in, reach_at, values_in}
use Rattle.dstm_structures.specs.Orders.{IsOrdered, forks_in, order_end}
use Rattle.dstm_structures.specs.Tips as tips
use Rattle.dstm_structures.specs.declared.map.Placed.{Placed}
use Rattle.dstm_structures.specs.declared.map.Placed.TheVariants.{New, Instead, Full}
use Rattle.dstm_structures.specs.declared.ordered.OrderedMap.{OrderedMap}

module _ {V : Type 0} (map : OrderedMap V) where
  -- THE CELLS OF A MAP ARE IN ORDER, by the values of all objects
  abbrev pub IsInOrder : List Val → Type 0
  IsInOrder values = IsOrdered map.map.cells.first map.map.cells.capacity values

  -- NO FORK IS WASTED: the cells are in order, and each fork is free on which their trie does not stand
  abbrev pub WastesNoFork : List Val → Type 0
  WastesNoFork values = tips.WastesNoFork map.map.cells.first map.map.cells.capacity values

  -- every object but those of the map keeps its value
  abbrev pub KeepsOthers : List Val → List Val → Type 0
  KeepsOthers before after =
      (o : ℕ) → (o < map.map.cells.first) ⊎ (order_end map.map.cells ≤ o) → value_at after o ≡ value_at before o

  -- where the cells are in order, this holds by the values before, and nothing was set
  pub record TellsInOrder (holds : List Val → Type 0) (before after : List Val) : Type 0 where
    pub is : IsInOrder before → holds before
    pub same : after ≡ before

module _ {V : Type 0} (found : Val → V) (map : OrderedMap V) where
  -- A KEY HAS THIS NOW, and had that before; every other key has what it had, no object around the map was set, where the
  -- cells were in order, they are, and where no place was wasted, or no fork, none is
  pub record Makes (key : ℕ) (now had : Option V) (before after : List Val) : Type 0 where
    pub was : item_of found map.map before key ≡ had
    pub is : item_of found map.map after key ≡ now
    pub others : (k : ℕ) → k ≢ key → item_of found map.map after k ≡ item_of found map.map before k
    pub around : KeepsOthers map before after
    pub order : IsInOrder map before → IsInOrder map after
    pub wastes : WastesNone map.map before → WastesNone map.map after
    pub forks : WastesNoFork map before → WastesNoFork map after

  -- a key was not there, each place holds one or each fork is taken, and nothing was set; where no fork is wasted, each place
  -- holds a key
  pub record HasNoRoom (key : ℕ) (before after : List Val) : Type 0 where
    pub was : item_of found map.map before key ≡ None
    pub full : ((at : ℕ) → at < map.map.cells.capacity → is_some (key_at map.map before at) ≡ true)
        ⊎ ((at : ℕ) → at < map.map.cells.capacity → (forks_in map.map.cells.first map.map.cells.capacity before at).1 ≢ 0)
    pub places : WastesNoFork map before → (at : ℕ) → at < map.map.cells.capacity → is_some (key_at map.map before at) ≡ true
    pub same : after ≡ before

  -- WHAT PUTTING A KEY DOES, by the answer
  abbrev pub Puts : ℕ → V → Placed V → List Val → List Val → Type 0
  Puts key value New before after = Makes key (Some value) None before after
  Puts key value (Instead had) before after = Makes key (Some value) (Some had) before after
  Puts key value Full before after = HasNoRoom key before after

  -- what putting a key does that is not there
  abbrev pub Adding : ℕ → V → Placed V → List Val → List Val → Type 0
  Adding key value placed before after =
      place_in map.map.cells.first map.map.cells.capacity before key ≡ None → Puts key value placed before after

  -- WHAT TAKING A KEY OUT DOES, by the answer
  abbrev pub Removes : ℕ → Option V → List Val → List Val → Type 0
  Removes key None before after = Tells found map.map key None before after
  Removes key (Some had) before after = Makes key None (Some had) before after

  -- a key was taken out that stood at this place
  abbrev pub Takes : (key at : ℕ) → List Val → List Val → Type 0
  Takes key at before after =
      place_in map.map.cells.first map.map.cells.capacity before key ≡ Some at →
      Makes key None (item_of found map.map before key) before after

  -- ---- keys by their order

  -- what a place holds, if it holds a key
  abbrev pub entry_of : Option ℕ → V → Option (ℕ × V)
  entry_of None value = None
  entry_of (Some key) value = Some (key, value)

  abbrev pub entry_at : List Val → Option ℕ → Option (ℕ × V)
  entry_at values None = None
  entry_at values (Some at) =
      entry_of (key_at map.map values at) (values_in found map.map.cells.first values at)

  -- this is the first key, with its value; or there is none
  abbrev pub IsFirst : Option (ℕ × V) → List Val → Type 0
  IsFirst None values = (k : ℕ) → item_of found map.map values k ≡ None
  IsFirst (Some entry) values =
      (item_of found map.map values entry.0 ≡ Some entry.1)
      × ((k : ℕ) → k < entry.0 → item_of found map.map values k ≡ None)

  -- this is the last key
  abbrev pub IsLast : Option (ℕ × V) → List Val → Type 0
  IsLast None values = (k : ℕ) → item_of found map.map values k ≡ None
  IsLast (Some entry) values =
      (item_of found map.map values entry.0 ≡ Some entry.1)
      × ((k : ℕ) → entry.0 < k → item_of found map.map values k ≡ None)

  -- the first one or the last one
  abbrev pub IsEnd : (greatest : Bool) → Option (ℕ × V) → List Val → Type 0
  IsEnd false answer values = IsFirst answer values
  IsEnd true answer values = IsLast answer values

  -- this is the first key above another one
  abbrev pub IsFirstAbove : ℕ → Option (ℕ × V) → List Val → Type 0
  IsFirstAbove key None values = (k : ℕ) → key < k → item_of found map.map values k ≡ None
  IsFirstAbove key (Some entry) values =
      (item_of found map.map values entry.0 ≡ Some entry.1)
      × (key < entry.0)
      × ((k : ℕ) → key < k → k < entry.0 → item_of found map.map values k ≡ None)

  -- this is the last key below another one
  abbrev pub IsLastBelow : ℕ → Option (ℕ × V) → List Val → Type 0
  IsLastBelow key None values = (k : ℕ) → k < key → item_of found map.map values k ≡ None
  IsLastBelow key (Some entry) values =
      (item_of found map.map values entry.0 ≡ Some entry.1)
      × (entry.0 < key)
      × ((k : ℕ) → entry.0 < k → k < key → item_of found map.map values k ≡ None)

  -- a place was looked at, and nothing was set
  pub record Looks (place : Option ℕ) (answer : Option (ℕ × V)) (before after : List Val) : Type 0 where
    pub is : answer ≡ entry_at before place
    pub same : after ≡ before

  -- THE FIRST KEY WAS TOLD, with its value, where the cells are in order, and nothing was set
  abbrev pub TellsFirst : Option (ℕ × V) → List Val → List Val → Type 0
  TellsFirst answer = TellsInOrder map (IsFirst answer)

  -- the last key
  abbrev pub TellsLast : Option (ℕ × V) → List Val → List Val → Type 0
  TellsLast answer = TellsInOrder map (IsLast answer)

  -- the first one or the last one
  abbrev pub TellsEnd : (greatest : Bool) → Option (ℕ × V) → List Val → List Val → Type 0
  TellsEnd greatest answer = TellsInOrder map (IsEnd greatest answer)

  -- the first key above another one
  abbrev pub TellsAbove : ℕ → Option (ℕ × V) → List Val → List Val → Type 0
  TellsAbove key answer = TellsInOrder map (IsFirstAbove key answer)

  -- the last key below another one
  abbrev pub TellsBelow : ℕ → Option (ℕ × V) → List Val → List Val → Type 0
  TellsBelow key answer = TellsInOrder map (IsLastBelow key answer)

  -- THE FIRST KEY WAS TAKEN OUT, or the last one, where the cells were in order
  pub record TakesEnd (greatest : Bool) (entry : ℕ × V) (before after : List Val) : Type 0 where
    pub end : IsInOrder map before → IsEnd greatest (Some entry) before
    pub is : item_of found map.map after entry.0 ≡ None
    pub others : (k : ℕ) → k ≢ entry.0 → item_of found map.map after k ≡ item_of found map.map before k
    pub around : KeepsOthers map before after
    pub order : IsInOrder map before → IsInOrder map after
    pub wastes : WastesNone map.map before → WastesNone map.map after
    pub forks : WastesNoFork map before → WastesNoFork map after

  abbrev pub PopsEnd : (greatest : Bool) → Option (ℕ × V) → List Val → List Val → Type 0
  PopsEnd greatest None before after = TellsEnd greatest None before after
  PopsEnd greatest (Some entry) before after = TakesEnd greatest entry before after

  -- the first key
  abbrev pub TakesFirst : ℕ × V → List Val → List Val → Type 0
  TakesFirst = TakesEnd false

  abbrev pub Pops : Option (ℕ × V) → List Val → List Val → Type 0
  Pops = PopsEnd false

  -- the last key
  abbrev pub TakesLast : ℕ × V → List Val → List Val → Type 0
  TakesLast = TakesEnd true

  abbrev pub PopsLast : Option (ℕ × V) → List Val → List Val → Type 0
  PopsLast = PopsEnd true

  -- an empty map, in order, has got the objects behind those before, and each of its places and forks is free;
  -- no key is looked for in it
  pub record Adds (before after : List Val) : Type 0 where
    pub cells : AddsCells map.map.cells.first (3 * map.map.cells.capacity + 1) before after
    pub open cells use *
    pub empty : (key : ℕ) → item_of found map.map after key ≡ None
    pub order : IsInOrder map after
    pub free : (at : ℕ) → at < map.map.cells.capacity → key_at map.map after at ≡ None
    pub near : (home : ℕ) → home < map.map.cells.capacity → reach_at map.map after home ≡ 0
    pub forks : (at : ℕ) → at < map.map.cells.capacity → (forks_in map.map.cells.first map.map.cells.capacity after at).1 ≡ 0
