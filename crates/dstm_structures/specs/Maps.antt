-- What a map's cells hold, and what the calls on it do.
use Rattle.std.specs.Prelude.{◌≡◌, ◌≢◌, ◌⊎◌, ℕ, ◌+◌, ◌*◌, ◌/◌, ◌%◌, ◌^◌, ◌<◌, ◌≤◌, ◌==◌, Bool, true, false, if◌then◌else◌, nat_lt, List, Option, None, Some, is_some}
use Rattle.dstm_model.specs.declared.value.Val.{Val}
use Rattle.dstm_model.specs.Map.{value_at}
use Rattle.dstm_structures.specs.Added.{AddsCells}
use Rattle.dstm_structures.specs.Circles.{behind}
use Rattle.dstm_structures.specs.Places.{AreTaken, find, is_free, is_key}
use Rattle.dstm_structures.specs.declared.cells.Slot.{Slot}
use Rattle.dstm_structures.specs.declared.map.HashMap.{HashMap}
use Rattle.dstm_structures.specs.declared.map.Placed.{Placed}
use Rattle.dstm_structures.specs.declared.map.Placed.TheVariants.{New, Instead, Full}

-- the place of n from which on a key is looked for
abbrev pub home_in : ℕ → ℕ → ℕ
home_in n key = (key * 11400714819323198485 % 2 ^ 64 / 4294967296) % n

-- the key that a value tells, if it tells one
abbrev pub key_of : Val → Option ℕ
key_of val = if val.high % 4294967296 == 1 then Some val.low else None

-- at how many places keys are looked for, by what a value tells
abbrev pub reach_of : Val → ℕ
reach_of val = val.high / 4294967296

-- both
abbrev pub slot_of : Val → Slot
slot_of val = record { reach = reach_of val; key = key_of val }

-- The cells of a map of n places, two of each place side by side: one that tells its key, and at how many places from it on
-- keys are looked for whose home it is, and one that holds the value.
abbrev pub keys_in : (first : ℕ) → List Val → ℕ → Option ℕ
keys_in first map at = key_of (value_at map (first + 2 * at))

abbrev pub values_in : {V : Type 0} → (Val → V) → (first : ℕ) → List Val → ℕ → V
values_in found first map at = found (value_at map (first + 2 * at + 1))

module _ (first n : ℕ) where
  abbrev pub reach_in : List Val → ℕ → ℕ
  reach_in map home =
      if nat_lt (reach_of (value_at map (first + 2 * home))) n then reach_of (value_at map (first + 2 * home)) else n

  abbrev pub place_in : List Val → ℕ → Option ℕ
  place_in map key = find n (keys_in first map) key (home_in n key) 0 (reach_in map (home_in n key))

  -- every object but those of the map keeps its value
  abbrev pub KeepsAround : List Val → List Val → Type 0
  KeepsAround before after = (o : ℕ) → (o < first) ⊎ (first + 2 * n ≤ o) → value_at after o ≡ value_at before o

abbrev pub at_place : {V : Type 0} → (ℕ → V) → Option ℕ → Option V
at_place values None = None
at_place values (Some at) = Some (values at)

module _ {V : Type 0} (found : Val → V) (first n : ℕ) where
  -- the value of a key, if it is there
  abbrev pub item_in : List Val → ℕ → Option V
  item_in map key = at_place (values_in found first map) (place_in first n map key)

-- the objects of a map are among so many
abbrev pub end_of : {V : Type 0} → HashMap V → ℕ
end_of map = map.cells.first + 2 * map.cells.capacity

-- ---- what a search does

module _ {V : Type 0} (map : HashMap V) where
  abbrev pub reach_at : List Val → ℕ → ℕ
  reach_at values home = reach_in map.cells.first map.cells.capacity values home

  abbrev pub key_at : List Val → ℕ → Option ℕ
  key_at values at = keys_in map.cells.first values at

  abbrev pub homes : ℕ → ℕ
  homes key = home_in map.cells.capacity key

  -- NO PLACE IS WASTED: each key that a place holds is found there
  abbrev pub WastesNone : List Val → Type 0
  WastesNone values =
      (at key : ℕ) → at < map.cells.capacity → key_at values at ≡ Some key →
      place_in map.cells.first map.cells.capacity values key ≡ Some at

  -- keys of this home are looked for at so many places
  pub record Reaches (home reach : ℕ) (before after : List Val) : Type 0 where
    pub is : reach ≡ reach_at before home
    pub same : after ≡ before

  -- a key was looked for, and found at this place, or nowhere
  pub record Seeks (key : ℕ) (place : Option ℕ) (before after : List Val) : Type 0 where
    pub is : place_in map.cells.first map.cells.capacity before key ≡ place
    pub same : after ≡ before

  -- the first place that is free for keys of this home stands so far behind it
  pub record FreeAt (home passed : ℕ) (before after : List Val) : Type 0 where
    pub free : is_free homes home (if nat_lt passed (reach_at before home) then false else true)
        (key_at before (behind map.cells.capacity home passed)) ≡ true
    pub taken : AreTaken map.cells.capacity homes (key_at before) home (reach_at before home) passed
    pub same : after ≡ before

  -- no place is free for keys of this home
  pub record NoneFree (home : ℕ) (before after : List Val) : Type 0 where
    pub taken : AreTaken map.cells.capacity homes (key_at before) home (reach_at before home) map.cells.capacity
    pub same : after ≡ before

  abbrev pub FreesBy : (home : ℕ) → Option ℕ → List Val → List Val → Type 0
  FreesBy home None before after = NoneFree home before after
  FreesBy home (Some passed) before after = FreeAt home passed before after

  -- a place that is free was looked for, where keys of its home are looked for at so many places
  abbrev pub Frees : (home reach : ℕ) → Option ℕ → List Val → List Val → Type 0
  Frees home reach free before after = reach ≡ reach_at before home → FreesBy home free before after

  -- ---- what is set

  -- keys of this home are looked for at so many places now
  pub record SetsReach (home far : ℕ) (before after : List Val) : Type 0 where
    pub is : reach_at after home ≡ far
    pub key : key_at after home ≡ key_at before home
    pub others : (o : ℕ) → o ≢ map.cells.first + 2 * home → value_at after o ≡ value_at before o

  -- this place has this key now, or none
  pub record SetsKey (at : ℕ) (key : Option ℕ) (before after : List Val) : Type 0 where
    pub is : key_at after at ≡ key
    pub reaches : (home : ℕ) → reach_at after home ≡ reach_at before home
    pub others : (o : ℕ) → o ≢ map.cells.first + 2 * at → value_at after o ≡ value_at before o

  -- this place does not hold the key any more, and no other key was set
  pub record Empties (at key : ℕ) (before after : List Val) : Type 0 where
    pub gone : is_key key (key_at after at) ≡ false
    pub keys : (k p : ℕ) → k ≢ key → is_key k (key_at after p) ≡ is_key k (key_at before p)
    pub less : (p : ℕ) → (key_at after p ≡ None) ⊎ (key_at after p ≡ key_at before p)
    pub reaches : (home : ℕ) → reach_at after home ≡ reach_at before home
    pub others : (o : ℕ) → o ≢ map.cells.first + 2 * at → value_at after o ≡ value_at before o

  -- of the places at which a key is looked for, the first ones do not hold it any more, and no other key was set
  pub record Clears (key passed : ℕ) (before after : List Val) : Type 0 where
    pub gone : (j : ℕ) → j < passed → is_key key (key_at after (behind map.cells.capacity (homes key) j)) ≡ false
    pub keys : (k p : ℕ) → k ≢ key → is_key k (key_at after p) ≡ is_key k (key_at before p)
    pub less : (p : ℕ) → (key_at after p ≡ None) ⊎ (key_at after p ≡ key_at before p)
    pub reaches : (home : ℕ) → reach_at after home ≡ reach_at before home
    pub others : (o : ℕ) → ((at : ℕ) → at < map.cells.capacity → o ≢ map.cells.first + 2 * at) →
        value_at after o ≡ value_at before o

  abbrev pub ClearsAll : (key : ℕ) → List Val → List Val → Type 0
  ClearsAll key before after = Clears key (reach_at before (homes key)) before after

-- how a key was put that was not there, by the place into which it was put
abbrev pub outcome : {V : Type 0} → Option ℕ → Placed V
outcome None = Full
outcome (Some at) = New

-- what a key had before it was put, by the answer
abbrev pub had_by : {V : Type 0} → Placed V → Option V
had_by New = None
had_by (Instead had) = Some had
had_by Full = None

-- ---- what the calls do

module _ {V : Type 0} (found : Val → V) (map : HashMap V) where
  -- WHAT A MAP HAS FOR A KEY, by the values of all objects
  abbrev pub item_of : List Val → ℕ → Option V
  item_of values key = item_in found map.cells.first map.cells.capacity values key

  -- A KEY'S VALUE WAS TOLD, if it was there, and nothing was set
  pub record Tells (key : ℕ) (answer : Option V) (before after : List Val) : Type 0 where
    pub is : answer ≡ item_of before key
    pub same : after ≡ before

  -- it was told whether a key is there, and nothing was set
  pub record TellsIf (key : ℕ) (answer : Bool) (before after : List Val) : Type 0 where
    pub is : answer ≡ is_some (item_of before key)
    pub same : after ≡ before

  -- A KEY HAS THIS NOW, and had that before; every other key has what it had, no object around the map was set, and where no
  -- place was wasted, none is
  pub record Makes (key : ℕ) (now had : Option V) (before after : List Val) : Type 0 where
    pub was : item_of before key ≡ had
    pub is : item_of after key ≡ now
    pub others : (k : ℕ) → k ≢ key → item_of after k ≡ item_of before k
    pub around : KeepsAround map.cells.first map.cells.capacity before after
    pub wastes : WastesNone map before → WastesNone map after

  -- a key was not there, each place holds one, and nothing was set
  pub record HasNoRoom (key : ℕ) (before after : List Val) : Type 0 where
    pub was : item_of before key ≡ None
    pub full : (at : ℕ) → at < map.cells.capacity → is_some (key_at map before at) ≡ true
    pub same : after ≡ before

  -- WHAT PUTTING A KEY DOES, by the answer
  abbrev pub Puts : ℕ → V → Placed V → List Val → List Val → Type 0
  Puts key value New before after = Makes key (Some value) None before after
  Puts key value (Instead had) before after = Makes key (Some value) (Some had) before after
  Puts key value Full before after = HasNoRoom key before after

  -- a key was put into this place: it is found there, and every other key where it was
  pub record InsertsAt (key at : ℕ) (value : V) (before after : List Val) : Type 0 where
    pub makes : Makes key (Some value) None before after
    pub there : place_in map.cells.first map.cells.capacity after key ≡ Some at
    pub places : (k : ℕ) → k ≢ key →
        place_in map.cells.first map.cells.capacity after k ≡ place_in map.cells.first map.cells.capacity before k

  -- what putting a key does that is not there, by the place into which it was put
  abbrev pub InsertsBy : ℕ → V → Option ℕ → List Val → List Val → Type 0
  InsertsBy key value None before after = HasNoRoom key before after
  InsertsBy key value (Some at) before after = InsertsAt key at value before after

  abbrev pub Inserts : ℕ → V → Option ℕ → List Val → List Val → Type 0
  Inserts key value place before after =
      place_in map.cells.first map.cells.capacity before key ≡ None → InsertsBy key value place before after

  -- a key was put into a place with its value
  pub record Stores (at key : ℕ) (value : V) (before after : List Val) : Type 0 where
    pub key_is : key_at map after at ≡ Some key
    pub value_is : values_in found map.cells.first after at ≡ value
    pub reaches : (home : ℕ) → reach_at map after home ≡ reach_at map before home
    pub others : (o : ℕ) → o ≢ map.cells.first + 2 * at → o ≢ map.cells.first + 2 * at + 1 →
        value_at after o ≡ value_at before o

  -- WHAT TAKING A KEY OUT DOES, by the answer
  abbrev pub Removes : ℕ → Option V → List Val → List Val → Type 0
  Removes key None before after = Tells key None before after
  Removes key (Some had) before after = Makes key None (Some had) before after

  -- an empty map has got the objects behind those before, and no key is looked for in it
  pub record Adds (before after : List Val) : Type 0 where
    pub cells : AddsCells map.cells.first (2 * map.cells.capacity) before after
    pub open cells use *
    pub empty : (key : ℕ) → item_of after key ≡ None
    pub free : (at : ℕ) → at < map.cells.capacity → key_at map after at ≡ None
    pub near : (home : ℕ) → home < map.cells.capacity → reach_at map after home ≡ 0
