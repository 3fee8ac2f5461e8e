-- A list on a region: its words, the two chains of its nodes, and what it says that they stand for keys: those of a
-- store, where the region is a layout's.
use Rattle.std.specs.Prelude.{◌≡◌, ◌≢◌, ℕ, zero, suc, ◌+◌, ◌*◌, ◌/◌, ◌%◌, ◌^◌, ◌<◌, ◌≤◌, List, [], ◌∷◌, ◌++◌, map}
use Rattle.std.specs.Prelude.{IsPermutation}
use Rattle.std.specs.List.Sorted.{IsStrictlyIncreasing}
use Rattle.dstm_model.specs.declared.value.Val.{Val}
use Rattle.dstm_model.specs.declared.layout.Layout.{Layout}
use Rattle.dstm_model.specs.Map.{value_at}
use Rattle.dstm_model.specs.Store.{Store}
use Rattle.dstm_model.specs.Objects.{list_begin, tree_begin, free_object, node_object, plain}
use Rattle.dstm_region.specs.declared.region.Region.{Region}
use Rattle.dstm_region.specs.Region.{IsInside, list_region}

-- what a node holds: its key and the number of the next node, 0 where there is none. The heads of the
-- two chains and the free nodes hold such a number alone.
abbrev pub node : ℕ → ℕ → Val
node key next = plain (key * 2048 + next)

abbrev pub key_of : Val → ℕ
key_of v = v.low / 2048

abbrev pub next_of : Val → ℕ
next_of v = v.low % 2048

-- a node that is in the list
pub record Cell : Type 0 where
  pub number : ℕ
  pub key : ℕ

abbrev pub numbers_of : List Cell → List ℕ
numbers_of cells = map (λ c. c.number) cells

abbrev pub keys_of : List Cell → List ℕ
keys_of cells = map (λ c. c.key) cells

-- the first of some numbers, 0 where there is none
abbrev pub first_of : List ℕ → ℕ
first_of [] = 0
first_of (i ∷ is) = i

-- each node of the list holds its key and the number of the next one
abbrev pub IsChain : ℕ → List Val → List Cell → Type 0
IsChain begin values [] = Unit {0}
IsChain begin values (c ∷ cs) =
    (value_at values (node_object begin c.number) ≡ node c.key (first_of (numbers_of cs)))
    × IsChain begin values cs

-- each free node holds the number of the next one
abbrev pub IsFreeChain : ℕ → List Val → List ℕ → Type 0
IsFreeChain begin values [] = Unit {0}
IsFreeChain begin values (i ∷ is) =
    (value_at values (node_object begin i) ≡ plain (first_of is)) × IsFreeChain begin values is

-- the numbers of n nodes
abbrev pub nodes_to : ℕ → List ℕ
nodes_to zero = []
nodes_to (suc n) = suc n ∷ nodes_to n

-- A list fits in the region: it has nodes, a link has room for their numbers, and whatever number a link has, that of
-- the node's object has 32 bits.
pub record FitsList (region : Region) : Type 0 where
  pub some : 0 < region.nodes
  pub few : region.nodes < 2048
  pub numbered : region.first + 2048 < 2 ^ 32

-- The region's objects hold these keys: they are in the nodes on the chain from the head, in rising order, every other
-- node is on the free chain, and none is on a chain twice. A region without nodes has no keys, whatever its heads hold.
pub record HasKeys (region : Region) (values : List Val) (all : List ℕ) : Type 0 where
  pub cells : List Cell
  pub free : List ℕ
  pub keys : all ≡ keys_of cells
  pub rising : IsStrictlyIncreasing all
  pub head : 0 < region.nodes → value_at values region.first ≡ plain (first_of (numbers_of cells))
  pub chain : IsChain region.first values cells
  pub free_head : 0 < region.nodes → value_at values (free_object region.first) ≡ plain (first_of free)
  pub free_chain : IsFreeChain region.first values free
  pub once : IsPermutation (numbers_of cells ++ free) (nodes_to region.nodes)

-- The objects of a layout's list hold the store's keys. A list that is not declared has no objects and no keys.
pub record IsList (layout : Layout) (values : List Val) (store : Store) : Type 0 where
  pub holds : HasKeys (list_region layout) values store.keys
  pub capacity : store.layout.list ≡ layout.list

-- the objects of a layout's list
abbrev pub IsOfList : Layout → ℕ → Type 0
IsOfList layout o = (list_begin layout ≤ o) × (o < tree_begin layout)

-- nothing differs but at the region's objects
abbrev pub SameOutside : {A : Type 0} → Region → (ℕ → A) → (ℕ → A) → Type 0
SameOutside region old new = (p : ℕ) → ¬ IsInside region p → new p ≡ old p

-- nothing differs but at the head of the free chain and at most two objects more: a node and its link
abbrev pub SameButThree : {A : Type 0} → Region → (ℕ → A) → (ℕ → A) → Type 0
SameButThree region old new =
    (link : ℕ) × ((number : ℕ) ×
    ((p : ℕ) → p ≢ link → p ≢ node_object region.first number → p ≢ free_object region.first → new p ≡ old p))
