-- A subtree whose root was read.
use Rattle.dstm_tree.proofs.Base.{◌≡◌, ℕ, ◌+◌, ◌*◌, ◌<◌, ◌≤◌, Bool, true, false, List, ◌∷◌, ◌++◌, arith, refl, sym, ◌∙◌}
use Rattle.dstm_tree.proofs.Base.{ap, cond, Val, Region, value_at, Node, Tree, leaf, node, number_of, items_of}
use Rattle.dstm_tree.proofs.Base.{node_value, object_of, Holds, HasItems, val_of, tree_of}

pub number_le : (region : Region) (map : List Val) (t : Tree) → Holds region map t → number_of t ≤ region.nodes
number_le region map leaf nodes = omega arith
number_le region map (node n red l k v r) nodes = nodes.1

-- ---- two nodes with one value are the same

digit : (x y a b : ℕ) → a < 65536 → b < 65536 → x * 65536 + a ≡ y * 65536 + b → a ≡ b
digit x y a b in_a in_b same = omega arith

rest : (x y a b : ℕ) → a < 65536 → b < 65536 → x * 65536 + a ≡ y * 65536 + b → x ≡ y
rest x y a b in_a in_b same = omega arith

colour : (k j : ℕ) (b c : Bool) → k * 2 + cond b 1 0 ≡ j * 2 + cond c 1 0 → b ≡ c
colour k j true true same = refl
colour k j true false same = absurd (omega arith)
colour k j false true same = absurd (omega arith)
colour k j false false same = refl

bit_below : (b : Bool) → cond b 1 0 < 2
bit_below true = omega arith
bit_below false = omega arith

pub record SameNode (k : ℕ) (red : Bool) (a b v k' : ℕ) (red' : Bool) (a' b' v' : ℕ) : Type 0 where
  pub key : k ≡ k'
  pub colour : red ≡ red'
  pub left : a ≡ a'
  pub right : b ≡ b'
  pub value : v ≡ v'

same_node : (k : ℕ) (red : Bool) (a b v k' : ℕ) (red' : Bool) (a' b' v' : ℕ) → a < 65536 → b < 65536 → a' < 65536 →
    b' < 65536 → node_value k red a b v ≡ node_value k' red' a' b' v' → SameNode k red a b v k' red' a' b' v'
same_node k red a b v k' red' a' b' v' in_a in_b in_a' in_b' same =
    let low = ap (λ (x : Val). x.low) same in
    let upper = rest ((k * 2 + cond red 1 0) * 65536 + a) ((k' * 2 + cond red' 1 0) * 65536 + a') b b' in_b in_b' low in
    let key = rest (k * 2 + cond red 1 0) (k' * 2 + cond red' 1 0) a a' in_a in_a' upper in
    record {
      key = omega (arith, bit_below red, bit_below red');
      colour = colour k k' red red' key;
      left = digit (k * 2 + cond red 1 0) (k' * 2 + cond red' 1 0) a a' in_a in_a' upper;
      right = digit ((k * 2 + cond red 1 0) * 65536 + a) ((k' * 2 + cond red' 1 0) * 65536 + a') b b' in_b in_b' low;
      value = ap (λ (x : Val). x.high) same;
    }

-- ---- the root of a subtree

pub root_is : (region : Region) (map : List Val) (t : Tree) (x : Node) → region.nodes < 65536 → number_of t ≡ x.number →
    (x.number ≡ 0 → ⊥) → x.left < 65536 → x.right < 65536 → Holds region map t →
    value_at map (object_of region x.number) ≡ val_of x → (l : Tree)
    × ((r : Tree) × ((number_of l ≡ x.left) × (number_of r ≡ x.right) × (t ≡ tree_of x l r)))
root_is region map leaf x small root some in_left in_right nodes value = absurd (some (sym root))
root_is region map (node n red l k v r) x small root some in_left in_right nodes value =
    let left_within : number_of l < 65536 = omega (arith, number_le region map l nodes.3) in
    let right_within : number_of r < 65536 = omega (arith, number_le region map r nodes.4) in
    let same = same_node k red (number_of l) (number_of r) v x.key x.red x.left x.right x.value left_within right_within
    in_left in_right (sym nodes.2 ∙ ap (λ i. value_at map (object_of region i)) root ∙ value) in
    let tree : node n red l k v r ≡ tree_of x l r = cc (root, same.key, same.colour, same.value) in
    (l, (r, (same.left, same.right, tree)))

-- ---- a map stands for one tree's items

-- trees that stand in one map under one number have the same items
same_items : (region : Region) (map : List Val) → region.nodes < 65536 → (t u : Tree) → Holds region map t →
    Holds region map u → number_of t ≡ number_of u → items_of t ≡ items_of u
same_items region map small leaf leaf nodes others same = refl
same_items region map small leaf (node n red l k v r) nodes others same = absurd (omega arith)
same_items region map small (node n red l k v r) leaf nodes others same = absurd (omega arith)
same_items region map small (node n red l k v r) (node n' red' l' k' v' r') nodes others same =
    let value : node_value k red (number_of l) (number_of r) v ≡ node_value k' red' (number_of l') (number_of r') v' =
    sym nodes.2 ∙ ap (λ i. value_at map (object_of region i)) same ∙ others.2 in
    let both = same_node k red (number_of l) (number_of r) v k' red' (number_of l') (number_of r') v'
    (omega (arith, number_le region map l nodes.3)) (omega (arith, number_le region map r nodes.4))
    (omega (arith, number_le region map l' others.3)) (omega (arith, number_le region map r' others.4)) value in
    let lefts = same_items region map small l l' nodes.3 others.3 both.left in
    let rights = same_items region map small r r' nodes.4 others.4 both.right in
    ap (λ (xs : List (ℕ × ℕ)). xs ++ (k, v) ∷ items_of r) lefts ∙ ap (λ key. items_of l' ++ (key, v) ∷ items_of r)
    both.key ∙ ap (λ w. items_of l' ++ (k', w) ∷ items_of r) both.value ∙ ap
    (λ (xs : List (ℕ × ℕ)). items_of l' ++ (k', v') ∷ xs) rights

pub items-unique : {limit : ℕ} (region : Region) (map : List Val) (one two : List (ℕ × ℕ)) → region.nodes < 65536 →
    HasItems limit region map one → HasItems limit region map two → one ≡ two
items-unique region map one two small t u =
    let root : number_of t.tree ≡ number_of u.tree = ap (λ (x : Val). x.low) (sym t.root ∙ u.root) in
    t.items ∙ same_items region map small t.tree u.tree t.nodes u.nodes root ∙ sym u.items
