-- Trees of numbered nodes, and what makes one a red-black tree.
use Rattle.std.specs.Prelude.{◌≡◌, ℕ, ◌+◌, ◌≤◌, ◌==◌, Bool, true, false, max, if◌then◌else◌, List, [], ◌∷◌, ◌++◌}

-- a node has a number, a colour, and a key with its value between the trees on its left and on its right
pub data Tree : Type 0 where
  leaf : Tree
  node : (number : ℕ) (red : Bool) (left : Tree) (key value : ℕ) (right : Tree) → Tree

-- the number of a tree's root, or 0
abbrev pub number_of : Tree → ℕ
number_of leaf = 0
number_of (node n red l k v r) = n

abbrev pub is_red : Tree → Bool
is_red leaf = false
is_red (node n red l k v r) = red

-- the keys with their values, from left to right
abbrev pub items_of : Tree → List (ℕ × ℕ)
items_of leaf = []
items_of (node n red l k v r) = items_of l ++ (k, v) ∷ items_of r

-- how many nodes have number i
abbrev pub count_of : ℕ → Tree → ℕ
count_of i leaf = 0
count_of i (node n red l k v r) = (if n == i then 1 else 0) + count_of i l + count_of i r

-- the keys are in search order, none is below `low`, and each is below `high`
abbrev pub IsOrdered : ℕ → ℕ → Tree → Type 0
IsOrdered low high leaf = low ≤ high
IsOrdered low high (node n red l k v r) = IsOrdered low k l × IsOrdered (k + 1) high r

-- how many black nodes stand on the way from the root to the leftmost missing child
abbrev pub black_height : Tree → ℕ
black_height leaf = 0
black_height (node n red l k v r) = black_height l + (if red then 0 else 1)

-- how many nodes stand on the longest way down
abbrev pub height : Tree → ℕ
height leaf = 0
height (node n red l k v r) = max (height l) (height r) + 1

-- on all ways from a node to a missing child there are as many black nodes, and no red node has a red child
abbrev pub IsBalanced : Tree → Type 0
IsBalanced leaf = Unit {0}
IsBalanced (node n red l k v r) =
    (black_height l ≡ black_height r) × (red ≡ true → (is_red l ≡ false) × (is_red r ≡ false)) × IsBalanced l ×
    IsBalanced r

-- a red-black tree, whose keys are below `limit`
pub record IsRedBlack (limit : ℕ) (tree : Tree) : Type 0 where
  pub order : IsOrdered 0 limit tree
  pub black : is_red tree ≡ false
  pub balanced : IsBalanced tree
