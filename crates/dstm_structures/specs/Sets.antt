-- What the calls on an ordered set do, by what its cells hold.
use Rattle.std.specs.Prelude.{◌≡◌, ◌≢◌, ◌⊎◌, ℕ, ◌+◌, ◌*◌, ◌<◌, ◌≤◌, Bool, true, false, List, length, AllPairs, Contains, Option, None, Some, is_some}
use Rattle.dstm_model.specs.declared.value.Val.{Val}
use Rattle.dstm_structures.specs.Added.{AddsCells}
use Rattle.dstm_structures.specs.Maps as maps
use Rattle.dstm_structures.specs.Maps.{WastesNone, item_of, key_at, reach_at}
use Rattle.dstm_structures.specs.Ordered.{IsInOrder, KeepsOthers, TellsInOrder, WastesNoFork}
use Rattle.dstm_structures.specs.Orders.{forks_in}
use Rattle.dstm_structures.specs.declared.map.Placed.{Placed}
use Rattle.dstm_structures.specs.declared.map.Placed.TheVariants as placed
use Rattle.dstm_structures.specs.declared.set.Inserted.{Inserted}
use Rattle.dstm_structures.specs.declared.set.Inserted.TheVariants.{New, There, Full}
use Rattle.dstm_structures.specs.declared.set.OrderedSet.{OrderedSet}
use Rattle.dstm_structures.specs.declared.set.Present.{Present}

-- what two words stand for in a set
abbrev pub present_of : Val → Present
present_of val = record {}

-- the key of an entry
abbrev pub key_in : Option (ℕ × Present) → Option ℕ
key_in None = None
key_in (Some entry) = Some entry.0

-- how a key was inserted that was put so
abbrev pub inserted_by : Placed Present → Inserted
inserted_by placed.New = New
inserted_by (placed.Instead had) = There
inserted_by placed.Full = Full

module _ (set : OrderedSet) where
  -- WHETHER A KEY IS IN A SET, by the values of all objects
  abbrev pub is_in : List Val → ℕ → Bool
  is_in values key = is_some (item_of present_of set.map.map values key)

  -- THE CELLS OF A SET ARE IN ORDER
  abbrev pub IsOrdered : List Val → Type 0
  IsOrdered values = IsInOrder set.map values

  -- it was told whether a key is in the set, and nothing was set
  abbrev pub TellsIf : (key : ℕ) (answer : Bool) (before after : List Val) → Type 0
  TellsIf key answer before after = maps.TellsIf present_of set.map.map key answer before after

  -- what a change of a set keeps: no object around it was set, where the cells were in order, they are, and where no place was
  -- wasted, or no fork, none is
  pub record KeepsWell (before after : List Val) : Type 0 where
    pub around : KeepsOthers set.map before after
    pub order : IsOrdered before → IsOrdered after
    pub wastes : WastesNone set.map.map before → WastesNone set.map.map after
    pub forks : WastesNoFork set.map before → WastesNoFork set.map after

  -- A KEY IS IN THE SET NOW, or is not, and was in it, or was not; every other key is in it where it was
  pub record Makes (key : ℕ) (now had : Bool) (before after : List Val) : Type 0 where
    pub was : is_in before key ≡ had
    pub is : is_in after key ≡ now
    pub others : (k : ℕ) → k ≢ key → is_in after k ≡ is_in before k
    pub keeps : KeepsWell before after
    pub open keeps use *

  -- a key was not in the set, each place holds one or each fork is taken, and nothing was set; where no fork is wasted, each
  -- place holds a key
  pub record HasNoRoom (key : ℕ) (before after : List Val) : Type 0 where
    pub was : is_in before key ≡ false
    pub full : ((at : ℕ) → at < set.map.map.cells.capacity → is_some (key_at set.map.map before at) ≡ true)
        ⊎ ((at : ℕ) → at < set.map.map.cells.capacity →
        (forks_in set.map.map.cells.first set.map.map.cells.capacity before at).1 ≢ 0)
    pub places : WastesNoFork set.map before → (at : ℕ) → at < set.map.map.cells.capacity →
        is_some (key_at set.map.map before at) ≡ true
    pub same : after ≡ before

  -- WHAT INSERTING A KEY DOES, by the answer
  abbrev pub Inserts : ℕ → Inserted → List Val → List Val → Type 0
  Inserts key New before after = Makes key true false before after
  Inserts key There before after = TellsIf key true before after
  Inserts key Full before after = HasNoRoom key before after

  -- WHAT TAKING A KEY OUT DOES, by the answer
  abbrev pub Removes : ℕ → Bool → List Val → List Val → Type 0
  Removes key false before after = TellsIf key false before after
  Removes key true before after = Makes key false true before after

  -- ---- keys by their order

  -- this is the first key of the set; or there is none
  abbrev pub IsFirst : Option ℕ → List Val → Type 0
  IsFirst None values = (k : ℕ) → is_in values k ≡ false
  IsFirst (Some key) values = (is_in values key ≡ true) × ((k : ℕ) → k < key → is_in values k ≡ false)

  -- this is the last key
  abbrev pub IsLast : Option ℕ → List Val → Type 0
  IsLast None values = (k : ℕ) → is_in values k ≡ false
  IsLast (Some key) values = (is_in values key ≡ true) × ((k : ℕ) → key < k → is_in values k ≡ false)

  -- this is the first key above another one
  abbrev pub IsFirstAbove : ℕ → Option ℕ → List Val → Type 0
  IsFirstAbove low None values = (k : ℕ) → low < k → is_in values k ≡ false
  IsFirstAbove low (Some key) values =
      (is_in values key ≡ true) × (low < key) × ((k : ℕ) → low < k → k < key → is_in values k ≡ false)

  -- this is the last key below another one
  abbrev pub IsLastBelow : ℕ → Option ℕ → List Val → Type 0
  IsLastBelow high None values = (k : ℕ) → k < high → is_in values k ≡ false
  IsLastBelow high (Some key) values =
      (is_in values key ≡ true) × (key < high) × ((k : ℕ) → key < k → k < high → is_in values k ≡ false)

  -- THE FIRST KEY WAS TOLD, where the cells are in order, and nothing was set
  abbrev pub TellsFirst : Option ℕ → List Val → List Val → Type 0
  TellsFirst answer = TellsInOrder set.map (IsFirst answer)

  -- the last key
  abbrev pub TellsLast : Option ℕ → List Val → List Val → Type 0
  TellsLast answer = TellsInOrder set.map (IsLast answer)

  -- the first key above another one
  abbrev pub TellsAbove : ℕ → Option ℕ → List Val → List Val → Type 0
  TellsAbove low answer = TellsInOrder set.map (IsFirstAbove low answer)

  -- the last key below another one
  abbrev pub TellsBelow : ℕ → Option ℕ → List Val → List Val → Type 0
  TellsBelow high answer = TellsInOrder set.map (IsLastBelow high answer)

  -- THE FIRST KEY WAS TAKEN OUT, where the cells were in order
  pub record TakesFirst (key : ℕ) (before after : List Val) : Type 0 where
    pub first : IsOrdered before → IsFirst (Some key) before
    pub is : is_in after key ≡ false
    pub others : (k : ℕ) → k ≢ key → is_in after k ≡ is_in before k
    pub keeps : KeepsWell before after
    pub open keeps use *

  abbrev pub Pops : Option ℕ → List Val → List Val → Type 0
  Pops None before after = TellsFirst None before after
  Pops (Some key) before after = TakesFirst key before after

  -- THE LAST KEY WAS TAKEN OUT, where the cells were in order
  pub record TakesLast (key : ℕ) (before after : List Val) : Type 0 where
    pub last : IsOrdered before → IsLast (Some key) before
    pub is : is_in after key ≡ false
    pub others : (k : ℕ) → k ≢ key → is_in after k ≡ is_in before k
    pub keeps : KeepsWell before after
    pub open keeps use *

  abbrev pub PopsLast : Option ℕ → List Val → List Val → Type 0
  PopsLast None before after = TellsLast None before after
  PopsLast (Some key) before after = TakesLast key before after

  -- SO MANY KEYS ARE IN THE SET, and nothing was set
  pub record Counts (count : ℕ) (before after : List Val) : Type 0 where
    pub keys : List ℕ
    pub all : (key : ℕ) → is_in before key ≡ true → Contains keys key
    pub only : (key : ℕ) → Contains keys key → is_in before key ≡ true
    pub once : AllPairs (λ one other. one ≢ other) keys
    pub is : count ≡ length keys
    pub same : after ≡ before

  -- these are the keys of a set, in their order
  pub record AreKeys (keys : List ℕ) (values : List Val) : Type 0 where
    pub all : (key : ℕ) → is_in values key ≡ true → Contains keys key
    pub only : (key : ℕ) → Contains keys key → is_in values key ≡ true
    pub rising : AllPairs (λ one other. one < other) keys

  -- these are the first keys of a set above another one, so many at most, in their order: all, or all up to the last of them
  pub record AreKeysAbove (low most : ℕ) (keys : List ℕ) (values : List Val) : Type 0 where
    pub few : length keys ≤ most
    pub all : (key : ℕ) → low < key → is_in values key ≡ true →
        Contains keys key ⊎ ((length keys ≡ most) × ((k : ℕ) → Contains keys k → k < key))
    pub only : (key : ℕ) → Contains keys key → (low < key) × (is_in values key ≡ true)
    pub rising : AllPairs (λ one other. one < other) keys

  -- THEY WERE TOLD, where the cells are in order, and nothing was set
  abbrev pub ListsAbove : (low most : ℕ) → List ℕ → List Val → List Val → Type 0
  ListsAbove low most keys = TellsInOrder set.map (AreKeysAbove low most keys)

  -- an empty set, in order, has got the objects behind those before, and each of its places and forks is free;
  -- no key is looked for in it
  pub record Adds (before after : List Val) : Type 0 where
    pub cells : AddsCells set.map.map.cells.first (3 * set.map.map.cells.capacity + 1) before after
    pub open cells use *
    pub empty : (key : ℕ) → is_in after key ≡ false
    pub order : IsOrdered after
    pub free : (at : ℕ) → at < set.map.map.cells.capacity → key_at set.map.map after at ≡ None
    pub near : (home : ℕ) → home < set.map.map.cells.capacity → reach_at set.map.map after home ≡ 0
    pub forks : (at : ℕ) → at < set.map.map.cells.capacity →
        (forks_in set.map.map.cells.first set.map.map.cells.capacity after at).1 ≡ 0
