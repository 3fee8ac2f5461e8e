-- What a region's objects hold, and what it says that they stand for items: those of a store, where the region is a
-- layout's.
use Rattle.std.specs.Prelude.{◌≡◌, ℕ, ◌+◌, ◌*◌, ◌<◌, ◌≤◌, ◌==◌, Bool, if◌then◌else◌, List, [], ◌∷◌, count_by}
use Rattle.dstm_model.specs.declared.value.Val.{Val}
use Rattle.dstm_model.specs.declared.layout.Layout.{Layout}
use Rattle.dstm_model.specs.declared.layout.TheConstants.{KEY_LIMIT}
use Rattle.dstm_model.specs.Map.{value_at}
use Rattle.dstm_model.specs.Store.{Store}
use Rattle.dstm_model.specs.Objects.{free_object, node_object, plain}
use Rattle.dstm_region.specs.declared.region.Region.{Region}
use Rattle.dstm_region.specs.Region.{tree_region}
use Rattle.dstm_tree.specs.Tree.{Tree, leaf, node, number_of, items_of, count_of, IsRedBlack}

-- the object that names the root, the one that names the first free node, and that of node i
abbrev pub root_of : Region → ℕ
root_of region = region.first

abbrev pub free_of : Region → ℕ
free_of region = free_object region.first

abbrev pub object_of : Region → ℕ → ℕ
object_of region i = node_object region.first i

-- the value of a node: its key, its colour and the numbers of its children make the low part
abbrev pub node_value : ℕ → Bool → ℕ → ℕ → ℕ → Val
node_value key red left right value =
    record { low = ((key * 2 + (if red then 1 else 0)) * 65536 + left) * 65536 + right; high = value }

-- each node of the tree is one of the region's, and its object has its value
abbrev pub Holds : Region → List Val → Tree → Type 0
Holds region map leaf = Unit {0}
Holds region map (node n red l k v r) =
    (0 < n) × (n ≤ region.nodes) × (value_at map (object_of region n) ≡ node_value k red (number_of l) (number_of r) v)
    × Holds region map l × Holds region map r

-- the first of the free nodes, or 0
abbrev pub first_of : List ℕ → ℕ
first_of [] = 0
first_of (i ∷ is) = i

-- each of these free nodes is one of the region's, and its object names the next
abbrev pub IsFreeChain : Region → List Val → List ℕ → Type 0
IsFreeChain region map [] = Unit {0}
IsFreeChain region map (i ∷ is) =
    (0 < i) × (i ≤ region.nodes) × (value_at map (object_of region i) ≡ plain (first_of is)) × IsFreeChain region map is

-- the region's objects hold a red-black tree of these items, whose keys are below a limit, and every other node is
-- free, once
pub record HasItems (limit : ℕ) (region : Region) (map : List Val) (all : List (ℕ × ℕ)) : Type 0 where
  pub tree : Tree
  pub free : List ℕ
  pub root : value_at map (root_of region) ≡ plain (number_of tree)
  pub unused : value_at map (free_of region) ≡ plain (first_of free)
  pub nodes : Holds region map tree
  pub chain : IsFreeChain region map free
  pub once : (i : ℕ) → 0 < i → i ≤ region.nodes → count_of i tree + count_by (λ j. j == i) free ≡ 1
  pub red_black : IsRedBlack limit tree
  pub items : all ≡ items_of tree

-- the objects of a layout's tree hold the store's items
pub record IsTree (layout : Layout) (map : List Val) (store : Store) : Type 0 where
  pub holds : HasItems KEY_LIMIT (tree_region layout) map store.items
  pub capacity : store.layout.tree ≡ layout.tree
