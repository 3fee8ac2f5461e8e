-- The search for a key, from the root down.
use Rattle.dstm_tree.proofs.Base.{◌≡◌, ℕ, ◌+◌, ◌-◌, ◌<◌, ◌≤◌, List, ◌∷◌, length, arith, refl, sym, ◌∙◌, ap, subst}
use Rattle.dstm_tree.proofs.Base.{length-append, Some, None, Val, Region, value_at, value_of, Node, Side, Left}
use Rattle.dstm_tree.proofs.Base.{Right, IsToward, Tree, leaf, node, number_of, items_of, count_of, IsOrdered}
use Rattle.dstm_tree.proofs.Base.{object_of, HasItems, FitsTree, IsRead, Subtree, Stands, Fork, child, sided, tree_of}
use Rattle.dstm_tree.proofs.Base.{val_of, ReadsRoot, Finds}
use Rattle.dstm_tree.proofs.Items.{order-near, sided-length, value_of-toward, value_of-root}
use Rattle.dstm_tree.proofs.Sizes.{size_all}
use Rattle.dstm_tree.proofs.Sides.{on-counts}
use Rattle.dstm_tree.proofs.Nodes.{number_le}
use Rattle.dstm_tree.proofs.Forks.{Forked-seen, forked, missing_child}

-- the whole tree
unfoldable pub all_of : {limit : ℕ} {region : Region} {map : List Val} {items : List (ℕ × ℕ)}
    (t : HasItems limit region map items) → Subtree region map (number_of t.tree) region.nodes
all_of {region} {map} t =
    let size = size_all region map t.tree t.free t.nodes t.chain t.once in
    record {
      tree = t.tree;
      low = 0;
      high = _;
      root = refl;
      nodes = t.nodes;
      once = λ i least most. omega (arith, t.once i least most);
      order = t.red_black.order;
      balanced = t.red_black.balanced;
      size = omega arith;
    }

pub stands_of : {region : Region} {map : List Val} {at depth : ℕ} (s : Subtree region map at depth) →
    Stands region map at s.tree
stands_of s = record { root = s.root; nodes = s.nodes; balanced = s.balanced }

-- a subtree whose root was read
pub record Rooted (region : Region) (map : List Val) (side : Side) (low high depth : ℕ) (t : Tree) (x : Node) : Type 0
  where
    pub near : Tree
    pub far : Tree
    pub tree : t ≡ sided side x near far
    pub fork : Fork region map side x near far
    pub once : (i : ℕ) → 0 < i → i ≤ region.nodes → count_of i (sided side x near far) ≤ 1
    pub order : IsOrdered low high (sided side x near far)
    pub size : length (items_of near) + length (items_of far) + 1 ≤ depth

unfoldable pub rooted : (region : Region) (map : List Val) (side : Side) (at depth : ℕ) (x : Node) →
    region.nodes < 65536 → x.number ≡ at → (at ≡ 0 → ⊥) → x.left < 65536 → x.right < 65536 →
    value_at map (object_of region at) ≡ val_of x → (s : Subtree region map at depth) →
    Rooted region map side s.low s.high depth s.tree x
rooted region map side at depth x small number some in_left in_right value s =
    let found = forked region map side s.tree x small (λ e. some (sym number ∙ e)) in_left in_right
    (ap (λ i. value_at map (object_of region i)) number ∙ value)
    (subst (λ n. Stands region map n s.tree) (sym number) (stands_of s)) in
    let size = subst (λ t. length (items_of t) ≤ depth) found.tree s.size in
    record {
      near = found.near;
      far = found.far;
      tree = found.tree;
      fork = found.fork;
      once = λ i least most. subst (λ t. count_of i t ≤ 1) found.tree (s.once i least most);
      order = subst (IsOrdered s.low s.high) found.tree s.order;
      size = omega (arith, sided-length side x found.near found.far);
    }

-- the tree on a side of the root
unfoldable pub part_of : {region : Region} {map : List Val} {side : Side} {low high depth : ℕ} {t : Tree} {x : Node} →
    Rooted region map side low high depth t x → Subtree region map (child side x) (depth - 1)
part_of {side} {low} {high} {x} h = record {
  tree = h.near;
  low = _;
  high = _;
  root = h.fork.near_stands.root;
  nodes = h.fork.near_stands.nodes;
  once = λ i least most. omega (arith, h.once i least most, on-counts i side);
  order = order-near side low high x h.near h.far h.order;
  balanced = h.fork.near_stands.balanced;
  size = omega arith;
}

-- a subtree that was read at its root
pub read_root : {region : Region} (side : Side) {at depth : ℕ} {x : Node} {map after : List Val} → FitsTree region →
    IsRead region at x map after → (at ≡ 0 → ⊥) → (s : Subtree region map at depth) →
    Rooted region map side s.low s.high depth s.tree x
read_root {region} side {at} {depth} {x} {map} h read some s =
    rooted region map side at depth x (omega arith) read.number some read.left read.right read.value s

-- both subtrees of a root that was read
pub record Halves (region : Region) (map : List Val) (depth : ℕ) (t : Tree) (x : Node) : Type 0 where
  pub left : Subtree region map x.left (depth - 1)
  pub right : Subtree region map x.right (depth - 1)
  pub tree : t ≡ tree_of x left.tree right.tree
  pub deep : 0 < depth

pub halves : (region : Region) (map : List Val) (at depth : ℕ) (x : Node) → region.nodes < 65536 → x.number ≡ at →
    (at ≡ 0 → ⊥) → x.left < 65536 → x.right < 65536 → value_at map (object_of region at) ≡ val_of x →
    (s : Subtree region map at depth) → Halves region map depth s.tree x
unfolding part_of rooted forked Forked-seen
halves region map at depth x small number some in_left in_right value s =
    let r = λ (side : Side). rooted region map side at depth x small number some in_left in_right value s in
    let here = r Left in
    record { left = part_of here; right = part_of (r Right); tree = here.tree; deep = omega arith }

-- where the search stands: a key among the items is in this subtree
pub record Searches (region : Region) (map : List Val) (at depth key : ℕ) (items : List (ℕ × ℕ)) : Type 0 where
  pub sub : Subtree region map at depth
  pub same : value_of key items ≡ value_of key (items_of sub.tree)

pub search-within : (region : Region) (map : List Val) (at depth key : ℕ) (items : List (ℕ × ℕ)) →
    Searches region map at depth key items → at ≤ region.nodes
search-within region map at depth key items h =
    omega (arith, number_le region map h.sub.tree h.sub.nodes)

no_items : (key : ℕ) (t : Tree) → length (items_of t) ≤ 0 → value_of key (items_of t) ≡ None
no_items key leaf none = refl
no_items key (node n red l k v r) none = absurd (omega (arith, length-append (items_of l) ((k, v) ∷ items_of r)))

pub search-end : {region : Region} {map : List Val} {at depth key : ℕ} {items : List (ℕ × ℕ)} → at ≡ 0 →
    Searches region map at depth key items → value_of key items ≡ None
search-end {key} none h = h.same ∙ ap (λ t. value_of key (items_of t)) (missing_child none (stands_of h.sub))

pub search-past : {region : Region} {map : List Val} {at depth key : ℕ} {items : List (ℕ × ℕ)} → depth ≡ 0 →
    Searches region map at depth key items → value_of key items ≡ None
search-past {key} none h = h.same ∙ no_items key h.sub.tree (omega arith)

-- the reads so far led the search here
pub record Reaches (region : Region) (depth key at : ℕ) (before after : List Val) : Type 0 where
  pub same : after ≡ before
  pub searches : (limit : ℕ) (items : List (ℕ × ℕ)) → HasItems limit region before items →
      Searches region before at depth key items

-- the search begins at the root
pub reach-start : {region : Region} {depth key at : ℕ} {before after : List Val} → depth ≡ region.nodes →
    ReadsRoot region at before after → Reaches region depth key at before after
unfolding all_of
reach-start {key} full read = record {
  same = read.same;
  searches = λ limit items t.
      rw (full, ← read.is limit items t) (record { sub = all_of t; same = ap (value_of key) t.items });
}

-- a read leaves the search where it is, below the root
pub reach-next : {region : Region} (side : Side) {at depth left key : ℕ} {x : Node} {before mid after : List Val} →
    FitsTree region → (at ≡ 0 → ⊥) → IsToward side key x.key → depth - 1 ≡ left →
    Reaches region depth key at before mid → IsRead region at x mid after →
    Reaches region left key (child side x) before after
unfolding part_of
reach-next side {key} {x} has some way less h read = record {
  same = read.same ∙ h.same;
  searches = λ limit items t.
      let s = h.searches limit items t in
      let r = read_root side has (rw h.same at read) some s.sub in
      rw (← less) (record {
        sub = part_of r;
        same = s.same ∙ ap (λ t. value_of key (items_of t)) r.tree ∙ value_of-toward side key s.sub.low s.sub.high x
            r.near r.far r.order way;
      });
}

pub reach-found : {region : Region} {at depth key : ℕ} {x : Node} {before mid after : List Val} → FitsTree region →
    (at ≡ 0 → ⊥) → key ≡ x.key → Reaches region depth key at before mid → IsRead region at x mid after →
    Finds region key (Some x.value) before after
reach-found {key} {x} has some same h read = record {
  same = read.same ∙ h.same;
  is = λ limit items t.
      let s = h.searches limit items t in
      let r = read_root Left has (rw h.same at read) some s.sub in
      sym (s.same ∙ ap (λ t. value_of key (items_of t)) r.tree ∙ value_of-root Left key s.sub.low s.sub.high x r.near
      r.far r.order same);
}

pub reach-none : {region : Region} {at depth key : ℕ} {before after : List Val} →
    Reaches region depth key at before after →
    ((items : List (ℕ × ℕ)) → Searches region before at depth key items → value_of key items ≡ None) →
    Finds region key None before after
reach-none h none = record { same = h.same; is = λ limit items t. sym (none items (h.searches limit items t)) }
