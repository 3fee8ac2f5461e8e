-- What stays as it was where some objects are set.
use Rattle.dstm_region.specs.Region.{IsInside}
use Rattle.dstm_tree.proofs.Base.{◌≡◌, ℕ, ◌+◌, ◌<◌, ◌≤◌, Bool, List, [], ◌∷◌, arith, refl, sym, ◌∙◌, ap, eq-eqb, cond}
use Rattle.dstm_tree.proofs.Base.{◌==◌, sum_by-cons, Val, Region, value_at, Tree, leaf, node, count_of, root_of}
use Rattle.dstm_tree.proofs.Base.{free_of, object_of, node_value, Holds, IsFreeChain, Stands, Sets, free_count, IsFree}
use Rattle.dstm_tree.proofs.Base.{Changes, HasItems, one_at, ne_eqb}

pub one_at-same : (n i : ℕ) → n ≡ i → one_at n i ≡ 1
one_at-same n i same = ap (λ b. cond b 1 0) (eq-eqb n i same)

pub one_at-other : (n i : ℕ) → (n ≡ i → ⊥) → one_at n i ≡ 0
one_at-other n i other = ap (λ b. cond b 1 0) (ne_eqb n i other)

pub one_at-self : (n : ℕ) → one_at n n ≡ 1
one_at-self n = one_at-same n n refl

pub unmarked : (n i : ℕ) → one_at n i ≡ 0 → i ≡ n → ⊥
unmarked n i none same =
    omega (arith, one_at-same n i (sym same))

pub free_count-first : (i n : ℕ) (free : List ℕ) → free_count i (n ∷ free) ≡ one_at n i + free_count i free
free_count-first i n free = sum_by-cons (λ j. cond (j == i) 1 0) n free

pub node_value-same : (k v : ℕ) (red red' : Bool) (a a' b b' : ℕ) → red ≡ red' → a ≡ a' → b ≡ b' →
    node_value k red a b v ≡ node_value k red' a' b' v
node_value-same k v red red' a a' b b' same_colour same_left same_right =
    ap (λ c. node_value k c a b v) same_colour ∙ ap (λ x. node_value k red' x b v) same_left ∙ ap
    (λ y. node_value k red' a' y v) same_right

-- ---- a tree and a chain whose objects keep their values

pub Holds-kept : (region : Region) (before after : List Val) (t : Tree) → ((i : ℕ) → 0 < i → i ≤ region.nodes → 0 <
    count_of i t → value_at after (object_of region i) ≡ value_at before (object_of region i)) → Holds region before t →
    Holds region after t
Holds-kept region before after leaf same nodes = tt
Holds-kept region before after (node n red l k v r) same nodes =
    let here : 0 < one_at n n + count_of n l + count_of n r = omega (arith, one_at-self n) in (
      nodes.0,
      nodes.1,
      same n nodes.0 nodes.1 here ∙ nodes.2,
      Holds-kept region before after l (λ i least most some. same i least most (omega arith)) nodes.3,
      Holds-kept region before after r (λ i least most some. same i least most (omega arith)) nodes.4,
    )

pub IsFreeChain-kept : (region : Region) (before after : List Val) (free : List ℕ) → ((i : ℕ) → 0 < i → i ≤ region.nodes
    → 0 < free_count i free → value_at after (object_of region i) ≡ value_at before (object_of region i)) →
    IsFreeChain region before free → IsFreeChain region after free
IsFreeChain-kept region before after [] same chain = tt
IsFreeChain-kept region before after (n ∷ free) same chain = (
  chain.0,
  chain.1,
  same n chain.0 chain.1 (omega (arith, free_count-first n n free, one_at-self n)) ∙ chain.2,
  IsFreeChain-kept region before after free
      (λ i least most some. same i least most (omega (arith, free_count-first i n free))) chain.3,
)

-- items whose objects keep their values
pub HasItems-kept : {limit : ℕ} {region : Region} {before after : List Val} {items : List (ℕ × ℕ)} →
    ((o : ℕ) → IsInside region o → value_at after o ≡ value_at before o) → HasItems limit region before items →
    HasItems limit region after items
HasItems-kept {region} {before} {after} same h = record {
  tree = h.tree;
  free = h.free;
  root = same (root_of region) (omega arith, omega arith) ∙ h.root;
  unused = same (free_of region) (omega arith, omega arith) ∙ h.unused;
  nodes = Holds-kept region before after h.tree
      (λ i least most some. same (object_of region i) (omega arith, omega arith)) h.nodes;
  chain = IsFreeChain-kept region before after h.free
      (λ i least most some. same (object_of region i) (omega arith, omega arith)) h.chain;
  once = h.once;
  red_black = h.red_black;
  items = h.items;
}

pub Stands-kept : {region : Region} {before after : List Val} {n : ℕ} {t : Tree} {touched : ℕ → ℕ} →
    Changes region touched before after → ((i : ℕ) → 0 < i → i ≤ region.nodes → 0 < count_of i t → touched i ≡ 0) →
    Stands region before n t → Stands region after n t
Stands-kept {region} {before} {after} {n} {t} changes apart h = record {
  root = h.root;
  nodes = Holds-kept region before after t (λ i least most some. changes.nodes i least most (apart i least most some))
      h.nodes;
  balanced = h.balanced;
}

pub IsFree-kept : {region : Region} {before after : List Val} {free : List ℕ} {touched : ℕ → ℕ} →
    Changes region touched before after → ((i : ℕ) → 0 < i → i ≤ region.nodes → 0 < free_count i free → touched i ≡ 0) →
    IsFree region before free → IsFree region after free
IsFree-kept {region} {before} {after} {free} changes apart h = record {
  unused = changes.free ∙ h.unused;
  chain = IsFreeChain-kept region before after free
      (λ i least most some. changes.nodes i least most (apart i least most some)) h.chain;
}

-- ---- which objects are changed

pub Changes-more : {region : Region} {one two three : List Val} {f g : ℕ → ℕ} → Changes region f one two →
    Changes region g two three → Changes region (λ i. f i + g i) one three
Changes-more a b = record {
  root = b.root ∙ a.root;
  free = b.free ∙ a.free;
  nodes = λ i least most none. b.nodes i least most (omega arith) ∙ a.nodes i least most (omega arith);
}

pub Changes-within : {region : Region} {one two : List Val} {f g : ℕ → ℕ} → ((i : ℕ) → g i ≡ 0 → f i ≡ 0) →
    Changes region f one two → Changes region g one two
Changes-within within h = record {
  root = h.root;
  free = h.free;
  nodes = λ i least most none. h.nodes i least most (within i none);
}

-- one node was set
pub wrote : (region : Region) (n : ℕ) (v : Val) (before after : List Val) → 0 < n →
    Sets (object_of region n) v before after → Changes region (one_at n) before after
wrote region n v before after some sets = record {
  root = sets.others (root_of region) (λ e. omega arith);
  free = sets.others (free_of region) (λ e. omega arith);
  nodes = λ i least most none. sets.others (object_of region i) (λ e. unmarked n i none (omega arith));
}

-- a node that is apart from the one that was set
pub Sets-apart : (region : Region) (n i : ℕ) (v : Val) (before after : List Val) → one_at i n ≡ 0 →
    Sets (object_of region n) v before after →
    value_at after (object_of region i) ≡ value_at before (object_of region i)
Sets-apart region n i v before after apart sets =
    sets.others (object_of region i) (λ e. unmarked i n apart (omega arith))
