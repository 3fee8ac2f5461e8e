-- A node over its two subtrees, seen from either side, and where it is read and written.
use Rattle.dstm_tree.proofs.Base.{◌≡◌, ℕ, ◌+◌, ◌<◌, ◌≤◌, true, false, List, refl, sym, ◌∙◌, ap, subst, arith, Val}
use Rattle.dstm_tree.proofs.Base.{Region, value_at, Node, Side, Left, Right, other, Tree, leaf, node, number_of, is_red}
use Rattle.dstm_tree.proofs.Base.{IsBalanced, object_of, Holds, FitsTree, IsRead, Stands, Fork, sided, tree_of, val_of}
use Rattle.dstm_tree.proofs.Base.{false_from_ne_true, IsRedFork, Sets, child, count_of, black_height, one_at}
use Rattle.dstm_tree.proofs.Nodes.{root_is, number_le}
use Rattle.dstm_tree.proofs.Kept.{node_value-same, Stands-kept, wrote}
use Rattle.dstm_tree.proofs.Sides.{other-other}

pub Fork-other : (region : Region) (map : List Val) (side : Side) (x : Node) (near far : Tree) →
    Fork region map side x near far → Fork region map (other side) x far near
Fork-other region map side x near far h = record {
  number = h.number;
  within = h.within;
  value = h.value;
  near_stands = h.far_stands;
  far_stands = rw (other-other side x) h.near_stands;
  heights = sym h.heights;
  colours = λ red. ((h.colours red).1, (h.colours red).0);
}

stand_left : (region : Region) (map : List Val) (x : Node) (near far : Tree) → Fork region map Left x near far →
    Stands region map x.number (tree_of x near far)
stand_left region map x near far h = record {
  root = refl;
  nodes = (
    h.number,
    h.within,
    h.value ∙ node_value-same x.key x.value x.red x.red x.left (number_of near) x.right (number_of far) refl
        (sym h.near_stands.root) (sym h.far_stands.root),
    h.near_stands.nodes,
    h.far_stands.nodes,
  );
  balanced = (h.heights, h.colours, h.near_stands.balanced, h.far_stands.balanced);
}

-- the tree of the node stands
pub stand : (region : Region) (map : List Val) (side : Side) (x : Node) (near far : Tree) →
    Fork region map side x near far → Stands region map x.number (sided side x near far)
stand region map Left x near far h = stand_left region map x near far h
stand region map Right x near far h = stand_left region map x far near (Fork-other region map Right x near far h)

-- a subtree without the node that was written stands still
pub still : {region : Region} (n : ℕ) {m : ℕ} {v : Val} {t : Tree} {before after : List Val} → 0 < n →
    Sets (object_of region n) v before after → ((i : ℕ) → 0 < i → i ≤ region.nodes → one_at n i + count_of i t ≤ 1) →
    Stands region before m t → Stands region after m t
still {region} n {v} {before} {after} some set apart h =
    Stands-kept (wrote region n v before after some set) (λ i least most here. omega (arith, apart i least most)) h

-- a node that was written stands over the subtrees that stood before
pub written : {region : Region} (side : Side) (x : Node) {a b : Tree} {before after : List Val} → 0 < x.number →
    x.number ≤ region.nodes → Sets (object_of region x.number) (val_of x) before after →
    Stands region before (child side x) a → Stands region before (child (other side) x) b →
    ((i : ℕ) → 0 < i → i ≤ region.nodes → one_at x.number i + count_of i a + count_of i b ≤ 1) →
    black_height a ≡ black_height b → (x.red ≡ true → (is_red a ≡ false) × (is_red b ≡ false)) →
    Stands region after x.number (sided side x a b)
written {region} side x {a} {b} {after} some within set near far once heights colours =
    stand region after side x a b (record {
      number = some;
      within = within;
      value = set.is;
      near_stands = still x.number some set (λ i least most. omega (arith, once i least most)) near;
      far_stands = still x.number some set (λ i least most. omega (arith, once i least most)) far;
      heights = heights;
      colours = colours;
    })

-- a tree whose root was read
pub record Forked (region : Region) (map : List Val) (side : Side) (t : Tree) (x : Node) : Type 0 where
  pub near : Tree
  pub far : Tree
  pub tree : t ≡ sided side x near far
  pub fork : Fork region map side x near far

unfoldable pub Forked-seen : (region : Region) (map : List Val) (side : Side) (t : Tree) (x : Node) →
    Forked region map Left t x → Forked region map side t x
Forked-seen region map Left t x h = h
Forked-seen region map Right t x h =
    record { near = h.far; far = h.near; tree = h.tree; fork = Fork-other region map Left x h.near h.far h.fork }

unfoldable pub forked : (region : Region) (map : List Val) (side : Side) (t : Tree) (x : Node) → region.nodes < 65536 →
    (x.number ≡ 0 → ⊥) → x.left < 65536 → x.right < 65536 → value_at map (object_of region x.number) ≡ val_of x →
    Stands region map x.number t → Forked region map side t x
forked region map side t x small some in_left in_right value h =
    let (l, (r, (left_is, right_is, is))) = root_is region map t x small h.root some in_left in_right h.nodes value in
    let nodes = subst (Holds region map) is h.nodes in
    let balanced = subst IsBalanced is h.balanced in
    Forked-seen region map side t x (record {
      near = l;
      far = r;
      tree = is;
      fork = record {
        number = nodes.0;
        within = nodes.1;
        value = value;
        near_stands = record { root = left_is; nodes = nodes.3; balanced = balanced.2 };
        far_stands = record { root = right_is; nodes = nodes.4; balanced = balanced.3 };
        heights = balanced.0;
        colours = balanced.1;
      };
    })

pub forked_read : {region : Region} (side : Side) {at : ℕ} {t : Tree} {x : Node} {before after : List Val} →
    FitsTree region → IsRead region at x before after → (at ≡ 0 → ⊥) → Stands region before at t →
    Forked region before side t x
forked_read {region} side {t} {x} {before} has read some h =
    forked region before side t x (omega arith) (λ e. some (sym read.number ∙ e)) read.left read.right
    (ap (λ i. value_at before (object_of region i)) read.number ∙ read.value)
    (subst (λ n. Stands region before n t) (sym read.number) h)

-- ---- a child is looked at

-- a root that is red only if the old one was stays black where that one was
pub not_red : (t old : Tree) → (is_red t ≡ true → is_red old ≡ true) → is_red old ≡ false → is_red t ≡ false
not_red t old only black = false_from_ne_true (is_red t) (λ e. cc (only e, black))

pub missing_child : {region : Region} {map : List Val} {t : Tree} {number : ℕ} → number ≡ 0 →
    Stands region map number t → t ≡ leaf
missing_child {t = leaf} none h = refl
missing_child {t = node n red l k v r} none h = absurd (omega arith)

pub red_child : {region : Region} {map : List Val} {side : Side} {t : Tree} {x : Node} → Forked region map side t x →
    x.red ≡ true → IsRedFork region map side t x
red_child h red = record { near = h.near; far = h.far; tree = h.tree; red = red; fork = h.fork }

pub stands-within : {region : Region} {map : List Val} {n : ℕ} {t : Tree} → Stands region map n t → n ≤ region.nodes
stands-within {region} {map} {t} h = omega (arith, number_le region map t h.nodes)
