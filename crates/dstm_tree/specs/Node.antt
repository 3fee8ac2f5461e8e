-- A node as the code holds it, its two sides, and a subtree as it stands in a map.
use Rattle.std.specs.Prelude.{◌≡◌, ℕ, ◌^◌, ◌<◌, ◌≤◌, Bool, true, false, List, length}
use Rattle.dstm_model.specs.declared.value.Val.{Val}
use Rattle.dstm_model.specs.declared.layout.Layout.{Layout}
use Rattle.dstm_model.specs.Layout.{IsValid}
use Rattle.dstm_model.specs.Map.{value_at}
use Rattle.dstm_region.specs.declared.region.Region.{Region}
use Rattle.dstm_region.specs.Region.{IsNumbered}
use Rattle.dstm_tree.specs.declared.node.Node.{Node}
use Rattle.dstm_tree.specs.declared.side.Side.{Side}
use Rattle.dstm_tree.specs.Side.{on, other}
use Rattle.dstm_tree.specs.Tree.{Tree, node, number_of, is_red, items_of, count_of, black_height, IsOrdered}
use Rattle.dstm_tree.specs.Tree.{IsBalanced}
use Rattle.dstm_tree.specs.Objects.{node_value, object_of, Holds}

-- a tree fits in the region: the numbers of its nodes have 16 bits, and those of its objects 32
pub record FitsTree (region : Region) : Type 0 where
  pub few : region.nodes < 2 ^ 16
  pub numbered : IsNumbered region

-- the layout is valid and has a tree
pub record HasTree (layout : Layout) : Type 0 where
  pub valid : IsValid layout
  pub declared : 0 < layout.tree

-- the value of a node's object
abbrev pub val_of : Node → Val
val_of x = node_value x.key x.red x.left x.right x.value

-- the node is one of the region's, and its key fits beside its children
pub record FitsNode (region : Region) (x : Node) : Type 0 where
  pub number : x.number ≤ region.nodes
  pub key : x.key < 2 ^ 31

-- the number of the child on a side, the node with another child there, and the node in a colour
abbrev pub child : Side → Node → ℕ
child side x = on side x.left x.right

abbrev pub with_child : Side → ℕ → Node → Node
with_child side number x = record x { left = on side number x.left; right = on side x.right number }

abbrev pub with_red : Bool → Node → Node
with_red red x = record x { red = red }

-- the tree with this node as its root
abbrev pub tree_of : Node → Tree → Tree → Tree
tree_of x left right = node x.number x.red left x.key x.value right

-- the same, with the near subtree on the given side:
--
--        Left                   Right
--          x                      x
--        /   \                  /   \
--     near    far            far    near
abbrev pub sided : Side → Node → Tree → Tree → Tree
sided side x near far = tree_of x (on side near far) (on side far near)

-- a node was read
pub record IsRead (region : Region) (at : ℕ) (x : Node) (map after : List Val) : Type 0 where
  pub number : x.number ≡ at
  pub value : value_at map (object_of region at) ≡ val_of x
  pub left : x.left < 2 ^ 16
  pub right : x.right < 2 ^ 16
  pub same : after ≡ map

-- a balanced tree stands under this number
pub record Stands (region : Region) (map : List Val) (number : ℕ) (t : Tree) : Type 0 where
  pub root : number_of t ≡ number
  pub nodes : Holds region map t
  pub balanced : IsBalanced t

-- a node stands over its near and its far subtree, which are as high in black nodes, and black below a red one
pub record Fork (region : Region) (map : List Val) (side : Side) (x : Node) (near far : Tree) : Type 0 where
  pub number : 0 < x.number
  pub within : x.number ≤ region.nodes
  pub value : value_at map (object_of region x.number) ≡ val_of x
  pub near_stands : Stands region map (child side x) near
  pub far_stands : Stands region map (child (other side) x) far
  pub heights : black_height near ≡ black_height far
  pub colours : x.red ≡ true → (is_red near ≡ false) × (is_red far ≡ false)

-- the tree whose root has number `at` in a map, with at most `depth` nodes
pub record Subtree (region : Region) (map : List Val) (at depth : ℕ) : Type 0 where
  pub tree : Tree
  pub low : ℕ
  pub high : ℕ
  pub root : number_of tree ≡ at
  pub nodes : Holds region map tree
  pub once : (i : ℕ) → 0 < i → i ≤ region.nodes → count_of i tree ≤ 1
  pub order : IsOrdered low high tree
  pub balanced : IsBalanced tree
  pub size : length (items_of tree) ≤ depth
