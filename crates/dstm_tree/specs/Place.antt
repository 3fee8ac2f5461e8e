-- Private: what it means to place a key in a subtree: it is hung as a red leaf, and where two red nodes stand one over the
-- other a rotation below a black node makes them siblings.
use Rattle.std.specs.Prelude.{◌≡◌, ◌≢◌, ℕ, ◌+◌, ◌<◌, ◌≤◌, ◌==◌, true, false, if◌then◌else◌, List, [], ◌∷◌}
use Rattle.std.specs.Prelude.{None, IsSome, count_by}
use Rattle.dstm_model.specs.declared.value.Val.{Val}
use Rattle.dstm_model.specs.Map.{value_at}
use Rattle.dstm_model.specs.declared.reply.Reply.{Reply}
use Rattle.dstm_model.specs.declared.reply.Reply.TheVariants as reply
use Rattle.dstm_model.specs.Store.{value_of, with_item}
use Rattle.dstm_model.specs.Objects.{plain}
use Rattle.dstm_region.specs.declared.region.Region.{Region}
use Rattle.dstm_tree.specs.declared.node.Node.{Node}
use Rattle.dstm_tree.specs.declared.side.Side.{Side}
use Rattle.dstm_tree.specs.declared.side.Side.TheVariants.{Left}
use Rattle.dstm_tree.specs.declared.place.Placed.{Placed}
use Rattle.dstm_tree.specs.declared.place.Placed.TheVariants.{Full, Found, Added, Root, Pair}
use Rattle.dstm_tree.specs.declared.place.Request.{Request}
use Rattle.dstm_tree.specs.Side.{other, IsToward}
use Rattle.dstm_tree.specs.Tree.{Tree, leaf, number_of, is_red, items_of, count_of, black_height, IsOrdered}
use Rattle.dstm_tree.specs.Objects.{root_of, free_of, object_of, first_of, IsFreeChain}
use Rattle.dstm_tree.specs.Node.{FitsNode, Subtree, Stands, Fork, child, sided}
use Rattle.dstm_tree.specs.Steps.{Sets}
use Rattle.dstm_tree.specs.Items.{Puts}

-- how often a number stands in the free chain
abbrev pub free_count : ℕ → List ℕ → ℕ
free_count i free = count_by (λ j. j == i) free

-- these are the free nodes
pub record IsFree (region : Region) (map : List Val) (free : List ℕ) : Type 0 where
  pub unused : value_at map (free_of region) ≡ plain (first_of free)
  pub chain : IsFreeChain region map free

-- the first free node was taken off the chain; 0 where there is none
abbrev pub TakesFirstFree : Region → ℕ → List ℕ → List Val → List Val → Type 0
TakesFirstFree region number [] before after = (number ≡ 0) × (after ≡ before)
TakesFirstFree region number (i ∷ rest) before after =
    (number ≡ i) × Sets (free_of region) (plain (first_of rest)) before after

abbrev pub IsTaken : Region → ℕ → List Val → List Val → Type 0
IsTaken region number before after =
    (free : List ℕ) → IsFree region before free → TakesFirstFree region number free before after

-- a subtree, and the free nodes
pub record CanPlace (region : Region) (map : List Val) (at depth : ℕ) : Type 0 where
  pub sub : Subtree region map at depth
  pub free : List ℕ
  pub is_free : IsFree region map free
  pub once : (i : ℕ) → 0 < i → i ≤ region.nodes → count_of i sub.tree + free_count i free ≤ 1

-- no node outside the tree and the old chain is touched, and these are the free nodes after
pub record Keeps (region : Region) (t : Tree) (free rest : List ℕ) (before after : List Val) : Type 0 where
  pub root : value_at after (root_of region) ≡ value_at before (root_of region)
  pub nodes : (i : ℕ) → 0 < i → i ≤ region.nodes → count_of i t + free_count i free ≡ 0 →
      value_at after (object_of region i) ≡ value_at before (object_of region i)
  pub chain : IsFree region after rest

-- the absent key was added to a tree, with one of the free nodes, and the black height stayed
pub record Grows (q : Request) (t : Tree) (free : List ℕ) (t' : Tree) (rest : List ℕ) : Type 0 where
  pub absent : value_of q.key (items_of t) ≡ None
  pub items : items_of t' ≡ with_item q.key q.value (items_of t)
  pub counts : (i : ℕ) → count_of i t' + free_count i rest ≡ count_of i t + free_count i free
  pub height : black_height t' ≡ black_height t

-- no node is free
pub record IsFull (q : Request) (t : Tree) (free : List ℕ) (before after : List Val) : Type 0 where
  pub absent : value_of q.key (items_of t) ≡ None
  pub none : free ≡ []
  pub same : after ≡ before

-- the key is there, with the new value where that replaces the old one
pub record Replaces (region : Region) (q : Request) (t : Tree) (free : List ℕ) (before after : List Val) : Type 0
  where
    pub tree : Tree
    pub present : IsSome (value_of q.key (items_of t))
    pub items : items_of tree ≡ (if q.replaces then with_item q.key q.value (items_of t) else items_of t)
    pub counts : (i : ℕ) → count_of i tree ≡ count_of i t
    pub height : black_height tree ≡ black_height t
    pub colour : is_red tree ≡ is_red t
    pub stands : Stands region after (number_of t) tree
    pub keeps : Keeps region t free free before after

-- the key was added, and the root stayed, or is black now
pub record AddsBelow (region : Region) (q : Request) (t : Tree) (free : List ℕ) (before after : List Val) : Type 0
  where
    pub tree : Tree
    pub rest : List ℕ
    pub grows : Grows q t free tree rest
    pub colour : is_red tree ≡ true → is_red t ≡ true
    pub stands : Stands region after (number_of t) tree
    pub keeps : Keeps region t free rest before after

-- the key was added under a red root over black children, which is not written yet
pub record AddsRoot (region : Region) (side : Side) (x : Node) (q : Request) (t : Tree) (free : List ℕ)
    (before after : List Val) : Type 0 where
  pub near : Tree
  pub far : Tree
  pub rest : List ℕ
  pub grows : Grows q t free (sided side x near far) rest
  pub red : x.red ≡ true
  pub number : 0 < x.number
  pub near_stands : Stands region after (child side x) near
  pub far_stands : Stands region after (child (other side) x) far
  pub heights : black_height near ≡ black_height far
  pub near_black : is_red near ≡ false
  pub far_black : is_red far ≡ false
  pub keeps : Keeps region t free rest before after

-- The key was added, and of two red nodes, not written yet, one stands over the other, whichever is seen as the
-- upper one: the items are the same. The tree between them is named by both.
--
--             inner                outer
--             /   \                /   \
--         outer    last        first    inner
--         /   \                         /   \
--     first   middle              middle     last
pub record AddsPair (region : Region) (side : Side) (outer inner : Node) (q : Request) (t : Tree) (free : List ℕ)
    (before after : List Val) : Type 0 where
  pub first : Tree
  pub middle : Tree
  pub last : Tree
  pub rest : List ℕ
  pub grows : Grows q t free (sided side inner (sided side outer first middle) last) rest
  pub was_red : is_red t ≡ true
  pub outer_red : outer.red ≡ true
  pub inner_red : inner.red ≡ true
  pub outer_number : 0 < outer.number
  pub inner_number : 0 < inner.number
  pub first_stands : Stands region after (child side outer) first
  pub middle_stands : Stands region after (child (other side) outer) middle
  pub middle_is : child side inner ≡ child (other side) outer
  pub last_stands : Stands region after (child (other side) inner) last
  pub first_height : black_height first ≡ black_height middle
  pub last_height : black_height last ≡ black_height middle
  pub keeps : Keeps region t free rest before after

-- how a key was placed in the tree t
abbrev pub IsPlaced : Region → Placed → Request → Tree → List ℕ → List Val → List Val → Type 0
IsPlaced region Full q t free before after = IsFull q t free before after
IsPlaced region Found q t free before after = Replaces region q t free before after
IsPlaced region Added q t free before after = AddsBelow region q t free before after
IsPlaced region (Root x) q t free before after = AddsRoot region Left x q t free before after
IsPlaced region (Pair x y) q t free before after = AddsPair region Left x y q t free before after

-- nothing is left to do, and no node was added
abbrev pub IsSettled : Placed → Type 0
IsSettled Full = Unit {0}
IsSettled Found = Unit {0}
IsSettled p = ⊥

-- the tree is as it was: no node is free, or the key is there and its value stays
abbrev pub LeavesAll : Request → Placed → Type 0
LeavesAll q Full = Unit {0}
LeavesAll q Found = q.replaces ≡ false
LeavesAll q p = ⊥

-- the same of the reply
abbrev pub LeavesStore : Request → Reply → Type 0
LeavesStore q r = (r ≢ reply.Yes) × (r ≡ reply.No → q.replaces ≡ false)

-- the nodes that are still to be written can be
abbrev pub FitsPlaced : Region → Placed → Type 0
FitsPlaced region (Root x) = FitsNode region x
FitsPlaced region (Pair x y) = FitsNode region x × FitsNode region y
FitsPlaced region p = Unit {0}

-- a node with its subtrees, and the free nodes, before a key is placed below it
pub record Parent (region : Region) (side : Side) (p : Node) (near far : Tree) (free : List ℕ) (map : List Val) : Type
    0 where
  pub fork : Fork region map side p near far
  pub low : ℕ
  pub high : ℕ
  pub order : IsOrdered low high (sided side p near far)
  pub once : (i : ℕ) → 0 < i → i ≤ region.nodes → count_of i (sided side p near far) + free_count i free ≤ 1

-- what was placed on a side of a node is placed at the node
abbrev pub Attaches : Region → Side → Node → Placed → Placed → List Val → List Val → Type 0
Attaches region side p below placed before after =
    (q : Request) (near far : Tree) (free : List ℕ) (start : List Val) → Parent region side p near far free start →
    IsToward side q.key p.key → IsPlaced region below q near free start before →
    IsPlaced region placed q (sided side p near far) free start after

-- a key was placed where there was no node
abbrev pub PlacesLeaf : Region → Request → Placed → List Val → List Val → Type 0
PlacesLeaf region q placed before after =
    (free : List ℕ) → IsFree region before free → IsPlaced region placed q leaf free before after

-- a key was placed in the subtree under a number
abbrev pub Places : Region → Request → ℕ → ℕ → Placed → List Val → List Val → Type 0
Places region q at depth placed before after =
    (h : CanPlace region before at depth) → IsPlaced region placed q h.sub.tree h.free before after

-- the key was placed, with its value
abbrev pub Answers : Region → Request → Reply → List Val → List Val → Type 0
Answers region q = Puts region q.replaces q.key q.value
