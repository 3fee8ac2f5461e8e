-- What the order of a map's keys is: a trie of their bits, in cells of its own behind those of the places.
use Rattle.std.specs.Prelude.{◌≡◌, ◌⊎◌, ℕ, ◌+◌, ◌-◌, ◌*◌, ◌/◌, ◌%◌, ◌^◌, ◌<◌, ◌≤◌, ◌==◌, Bool, true, false, if◌then◌else◌, max, nat_lt, List, Option, None, Some}
use Rattle.dstm_model.specs.declared.value.Val.{Val}
use Rattle.dstm_model.specs.Map.{value_at}
use Rattle.dstm_structures.specs.Maps.{keys_in, place_in}
use Rattle.dstm_structures.specs.declared.cells.Rows.{Rows}
use Rattle.dstm_structures.specs.declared.order.Link.{Link}
use Rattle.dstm_structures.specs.declared.order.Link.TheVariants.{Nothing, Tip, Fork}

-- ---- tries of keys

-- Keys by their bits: a tip is a key at a place; a fork, in a fork cell, parts keys that differ first at this level, of which
-- the rest before it is the prefix.
pub data Trie : Type 0 where
  tip : (at key : ℕ) → Trie
  fork : (at level prefix : ℕ) (left right : Trie) → Trie

-- a key stands at this place in the trie
abbrev pub Has : (at key : ℕ) → Trie → Type 0
Has at key (tip p k) = (p ≡ at) × (k ≡ key)
Has at key (fork p j q l r) = Has at key l ⊎ Has at key r

-- All keys of a trie have these bits from this level on; the level of each fork is below that, it parts the keys below it by
-- their bit at its level, and they all have its prefix before that.
abbrev pub Below : (under bits : ℕ) → Trie → Type 0
Below under bits (tip p k) = k / 2 ^ under ≡ bits
Below under bits (fork p j q l r) =
    (j < under) × ((q * 2 ^ (j + 1)) / 2 ^ under ≡ bits) × Below j (2 * q) l × Below j (2 * q + 1) r

-- how many forks stand on the longest way down a trie
abbrev pub height : Trie → ℕ
height (tip p k) = 0
height (fork p j q l r) = max (height l) (height r) + 1

-- ---- what the cells tell

-- the number of the link to a trie; 0 links to nothing
abbrev pub link_to : Trie → ℕ
link_to (tip p k) = 2 * p + 1
link_to (fork p j q l r) = 2 * p + 2

-- what a link's number leads to, where there are n places
abbrev pub link_in : (n number : ℕ) → Link
link_in n number =
    if nat_lt number 1 then Nothing
    else if nat_lt ((number - 1) / 2) n then
    (if number % 2 == 1 then Tip ((number - 1) / 2) else Fork ((number - 1) / 2))
    else Nothing

-- a link leads to one of n places or forks, if anywhere
abbrev pub IsInside : (n : ℕ) → Link → Type 0
IsInside n Nothing = Unit {0}
IsInside n (Tip at) = at < n
IsInside n (Fork at) = at < n

-- the first word of a value, and both
abbrev pub low_of : Val → ℕ
low_of val = val.low

abbrev pub words_of : Val → ℕ × ℕ
words_of val = (val.low, val.high)

-- what a fork's cell tells: by the second of its words its level and its two links; a free one's is 0
abbrev pub level_in : ℕ → ℕ
level_in high = high / 72057594037927936

abbrev pub left_in : ℕ → ℕ
left_in high = high / 268435456 % 268435456

abbrev pub right_in : ℕ → ℕ
right_in high = high % 268435456

-- cells that tell these keys of n places, and these words of n forks, hold a trie
abbrev pub Holds : (n : ℕ) (keys : ℕ → Option ℕ) (forks : ℕ → ℕ × ℕ) → Trie → Type 0
Holds n keys forks (tip p k) = (p < n) × (keys p ≡ Some k)
Holds n keys forks (fork p j q l r) =
    (p < n)
    × (level_in (forks p).1 ≡ j)
    × ((forks p).0 ≡ q)
    × (left_in (forks p).1 ≡ link_to l)
    × (right_in (forks p).1 ≡ link_to r)
    × Holds n keys forks l
    × Holds n keys forks r

-- The cells of an order of n places stand behind those of the places: one that holds the link to the whole trie, and then
-- one for each fork.
module _ (first n : ℕ) where
  abbrev pub root_in : List Val → ℕ
  root_in values = low_of (value_at values (first + 2 * n))

  abbrev pub forks_in : List Val → ℕ → ℕ × ℕ
  forks_in values at = words_of (value_at values (first + 2 * n + 1 + at))

  abbrev pub HoldsIn : List Val → Trie → Type 0
  HoldsIn values t = Holds n (keys_in first values) (forks_in values) t

  -- THE CELLS ARE IN ORDER BY THIS TRIE: its keys are those that are found, at the places where they are found
  pub record IsOrderedBy (t : Trie) (values : List Val) : Type 0 where
    pub root : root_in values ≡ link_to t
    pub held : HoldsIn values t
    pub split : Below 64 0 t
    pub there : (at key : ℕ) → Has at key t → place_in first n values key ≡ Some at
    pub all : (at key : ℕ) → place_in first n values key ≡ Some at → Has at key t

  -- no key is there, and no trie
  pub record IsBare (values : List Val) : Type 0 where
    pub root : root_in values ≡ 0
    pub none : (key : ℕ) → place_in first n values key ≡ None

  -- THE CELLS ARE IN ORDER
  abbrev pub IsOrdered : List Val → Type 0
  IsOrdered values = IsBare values ⊎ ((t : Trie) × IsOrderedBy t values)

  -- every object but the cells of the forks keeps its value
  abbrev pub KeepsButForks : List Val → List Val → Type 0
  KeepsButForks before after =
      (o : ℕ) → (o ≤ first + 2 * n) ⊎ (first + 3 * n + 1 ≤ o) → value_at after o ≡ value_at before o

-- the objects of an ordered map's cells are among so many
abbrev pub order_end : Rows → ℕ
order_end cells = cells.first + 3 * cells.capacity + 1

-- ---- what is read of a trie

-- this place is that of the least key of a trie, or of the greatest one
abbrev pub IsLeast : (at : ℕ) → Trie → Type 0
IsLeast at t = (key : ℕ) × Has at key t × ((p k : ℕ) → Has p k t → key ≤ k)

abbrev pub IsGreatest : (at : ℕ) → Trie → Type 0
IsGreatest at t = (key : ℕ) × Has at key t × ((p k : ℕ) → Has p k t → k ≤ key)

-- the place of the least key above this one, if there is one
abbrev pub IsNext : (key : ℕ) (answer : Option ℕ) → Trie → Type 0
IsNext key None t = (p k : ℕ) → Has p k t → k ≤ key
IsNext key (Some at) t = (above : ℕ) × Has at above t × (key < above) × ((p k : ℕ) → Has p k t → key < k → above ≤ k)

-- a place holds a key above this one
abbrev pub is_above : ℕ → Option ℕ → Bool
is_above key None = false
is_above key (Some held) = nat_lt key held

-- the place of the greatest key below this one, if there is one
abbrev pub IsPrevious : (key : ℕ) (answer : Option ℕ) → Trie → Type 0
IsPrevious key None t = (p k : ℕ) → Has p k t → key ≤ k
IsPrevious key (Some at) t = (below : ℕ) × Has at below t × (below < key) × ((p k : ℕ) → Has p k t → k < key → k ≤ below)

-- a place holds a key below this one
abbrev pub is_below : ℕ → Option ℕ → Bool
is_below key None = false
is_below key (Some held) = nat_lt held key

abbrev pub IsEdge : (greatest : Bool) (answer : Option ℕ) → Trie → Type 0
IsEdge greatest None t = ⊥
IsEdge false (Some at) t = IsLeast at t
IsEdge true (Some at) t = IsGreatest at t

module _ (cells : Rows) where
  -- a place of which this holds was looked for below a link, and nothing was set
  pub record Finds (holds : Option ℕ → Trie → Type 0) (link under : ℕ) (answer : Option ℕ) (before after : List Val) : Type 0 where
    pub is : (bits : ℕ) (t : Trie) → link ≡ link_to t → HoldsIn cells.first cells.capacity before t → Below under bits t →
        holds answer t
    pub nowhere : link ≡ 0 → answer ≡ None
    pub same : after ≡ before

  -- it was looked for in the whole trie, where the cells are in order by one, and nothing was set; where they hold none, no
  -- place was found
  pub record FindsAll (holds : Option ℕ → Trie → Type 0) (answer : Option ℕ) (before after : List Val) : Type 0 where
    pub is : (t : Trie) → IsOrderedBy cells.first cells.capacity t before → holds answer t
    pub bare : root_in cells.first cells.capacity before ≡ 0 → answer ≡ None
    pub same : after ≡ before

  -- the least place of a trie, or the greatest one
  abbrev pub Ends : (greatest : Bool) (link under : ℕ) → Option ℕ → List Val → List Val → Type 0
  Ends greatest = Finds (IsEdge greatest)

  abbrev pub EndsAll : (greatest : Bool) → Option ℕ → List Val → List Val → Type 0
  EndsAll greatest = FindsAll (IsEdge greatest)

  -- the place of the least key above this one
  abbrev pub Follows : (key link under : ℕ) → Option ℕ → List Val → List Val → Type 0
  Follows key = Finds (IsNext key)

  abbrev pub FollowsAll : (key : ℕ) → Option ℕ → List Val → List Val → Type 0
  FollowsAll key = FindsAll (IsNext key)

  -- the place of the greatest key below this one
  abbrev pub Precedes : (key link under : ℕ) → Option ℕ → List Val → List Val → Type 0
  Precedes key = Finds (IsPrevious key)

  abbrev pub PrecedesAll : (key : ℕ) → Option ℕ → List Val → List Val → Type 0
  PrecedesAll key = FindsAll (IsPrevious key)
