-- A key is taken out of a subtree.
use Rattle.dstm_tree.proofs.Base.{◌≡◌, ℕ, ◌+◌, ◌-◌, ◌<◌, ◌≤◌, Bool, false, List, ◌∷◌, ◌++◌, arith, refl, sym, ◌∙◌, ap}
use Rattle.dstm_tree.proofs.Base.{subst, Some, None, Val, Region, value_at, value_of, without_item, Node, Side}
use Rattle.dstm_tree.proofs.Base.{Left, Right, Cut, Least, Removed, other, IsToward, Tree, is_red, items_of, count_of}
use Rattle.dstm_tree.proofs.Base.{black_height, IsOrdered, object_of, FitsTree, IsRead, Subtree, Stands, Fork, child}
use Rattle.dstm_tree.proofs.Base.{with_child, with_red, sided, val_of, Sets, blackness, Gap, HasGap, Closes, Became}
use Rattle.dstm_tree.proofs.Base.{Loses, TakesLeast, RemovesRoot, RemovesIf, Hoists, false_from_ne_true}
use Rattle.dstm_tree.proofs.Base.{true_from_ne_false, one_at}
use Rattle.dstm_tree.proofs.Kept.{one_at-self, Stands-kept, Changes-more, Changes-within, wrote}
use Rattle.dstm_tree.proofs.Sides.{item_of, child-set, child-kept, sided-counts, on-counts, sided-height}
use Rattle.dstm_tree.proofs.Items.{value_of-toward, value_of-root, without_item-toward, without_item-here}
use Rattle.dstm_tree.proofs.Items.{without_item-only}
use Rattle.dstm_tree.proofs.Forks.{forked_read, missing_child, written, stands-within, not_red}
use Rattle.dstm_tree.proofs.Search.{stands_of, Rooted, part_of, read_root}

-- ---- a child takes its parent's place

pub hoist-some : (region : Region) (number : ℕ) (red : Bool) (x y : Node) (before mid after : List Val) →
    FitsTree region → (number ≡ 0 → ⊥) → IsRead region number x before mid → y ≡ with_red false x →
    Sets (object_of region y.number) (val_of y) mid after →
    Hoists region number red (record { root = number; fell = false }) before after
hoist-some region number red x y before mid after has some read y_is set t h once height colour =
    let found = forked_read Left has read some h in
    let l = found.near in
    let r = found.far in
    let x' = with_red false x in
    let high = ap black_height found.tree ∙ sided-height Left x l r found.fork.heights in
    let is_red_x = true_from_ne_false x.red (λ e. omega (arith, ap blackness e)) in
    let black = false_from_ne_true red (λ e. cc (ap is_red found.tree, is_red_x, colour e)) in
    let set_x = rw (read.same, y_is) at set in
    let changes = wrote region x.number (val_of x') before after found.fork.number set_x in
    record {
      tree = sided Left x' l r;
      items = ap items_of (sym found.tree);
      counts = λ i. ap (count_of i) (sym found.tree);
      height_is = omega (arith, ap blackness black);
      colour = λ e. absurd (cc e);
      stands = subst (λ n. Stands region after n (sided Left x' l r)) read.number
          (written Left x' found.fork.number found.fork.within set_x found.fork.near_stands found.fork.far_stands
          (λ i least most. omega (arith, once i least most, ap (count_of i) found.tree)) found.fork.heights
          (λ e. absurd (cc e)));
      keeps = Changes-within (λ i none. omega (arith, ap (count_of i) found.tree)) changes;
    }

-- a root with no child on a side is taken out
pub hoisted : {region : Region} {side : Side} {low high depth : ℕ} {t : Tree} {x : Node} (cut : Cut) {before : List Val}
    (after : List Val) → child side x ≡ 0 → Hoists region (child (other side) x) x.red cut before after →
    (r : Rooted region before side low high depth t x) → (lost : Loses region x.number t cut before after)
    × (items_of lost.became.tree ≡ items_of r.far)
hoisted {side} {t} {x} cut after none does r =
    let is_leaf = missing_child none r.fork.near_stands in
    let flat : black_height r.far ≡ 0 = sym r.fork.heights ∙ ap black_height is_leaf in
    let counts : (i : ℕ) → count_of i t ≡ one_at x.number i + count_of i r.far =
    λ i. omega (arith, ap (count_of i) r.tree, ap (count_of i) is_leaf, on-counts i side) in
    let c = does r.far r.fork.far_stands (λ i least most. omega (arith, r.once i least most, on-counts i side)) flat
    (λ red. (r.fork.colours red).1) in
    let tall = ap black_height r.tree ∙ sided-height side x r.near r.far r.fork.heights in (
      record {
        became = record {
          tree = c.tree;
          fewer = λ i. omega (arith, c.counts i, counts i);
          height_is = omega (arith, c.height_is);
          colour = λ e. ap is_red r.tree ∙ c.colour e;
          stands = c.stands;
          keeps = Changes-within (λ i no. omega (arith, counts i)) c.keeps;
        };
        counts = λ i. omega (arith, c.counts i, counts i);
        some = r.fork.number;
        within = r.fork.within;
      },
      c.items,
    )

-- ---- a subtree of a node lost one, and then the node is balanced

pub gap-after : {region : Region} {side : Side} {x : Node} (k v : ℕ) {near far : Tree} {cut : Cut}
    {before two : List Val} → Fork region before side x near far →
    ((i : ℕ) → 0 < i → i ≤ region.nodes → count_of i (sided side x near far) ≤ 1) →
    (b : Became region near cut before two) →
    Gap region side x (with_child side cut.root (record x { key = k; value = v })) cut.fell b.tree far two
gap-after {region} {side} {x} k v {near} {far} {cut} {two} fork once b =
    let y = record x { key = k; value = v } in
    let apart : (i : ℕ) → 0 < i → i ≤ region.nodes → one_at x.number i + count_of i near + count_of i far ≤ 1 =
    λ i least most. omega (arith, once i least most, on-counts i side) in
    record {
      number = fork.number;
      within = fork.within;
      held_is = b.keeps.nodes x.number fork.number fork.within
          (omega (arith, apart x.number fork.number fork.within, one_at-self x.number)) ∙ fork.value;
      near_stands = rw (child-set side cut.root y) b.stands;
      far_stands = rw (child-kept side cut.root y)
          (Stands-kept b.keeps (λ i least most some. omega (arith, apart i least most)) fork.far_stands);
      once = λ i least most. omega (arith, apart i least most, b.fewer i, on-counts i side);
      heights = b.height_is ∙ fork.heights;
      near_colour = λ red _. not_red b.tree near b.colour (fork.colours red).0;
      far_colour = λ red. (fork.colours red).1;
    }

-- the node over what is left is at a gap
pub has-gap : {region : Region} {side : Side} {low high depth k v : ℕ} {t : Tree} {x p : Node} {cut : Cut}
    {before two : List Val} → p ≡ with_child side cut.root (record x { key = k; value = v }) →
    (r : Rooted region before side low high depth t x) → Became region r.near cut before two →
    HasGap region side x p cut.fell two
has-gap {k} {v} p_is r b = rw p_is (_, (r.far, gap-after k v r.fork r.once b))

-- the gap is closed
pub loses-below : {region : Region} {side : Side} {x p : Node} (k v : ℕ) {number : ℕ} {near far : Tree} {cut : Cut}
    (end : Cut) {before two : List Val} (after : List Val) → Fork region before side x near far →
    ((i : ℕ) → 0 < i → i ≤ region.nodes → count_of i (sided side x near far) ≤ 1) →
    p ≡ with_child side cut.root (record x { key = k; value = v }) → (lost : Loses region number near cut before two) →
    Closes region side x p cut.fell end two after →
    (whole : Loses region number (sided side x near far) end before after)
    × (items_of whole.became.tree ≡ items_of (sided side (record x { key = k; value = v }) lost.became.tree far))
loses-below {region} {side} {x} k v {near} {far} {cut} end {two} after fork once p_is lost closes =
    let b = lost.became in
    let y = with_child side cut.root (record x { key = k; value = v }) in
    let s = sided side y b.tree far in
    let c = (rw p_is at closes) b.tree far (gap-after k v fork once b) in
    let inner = sided-counts side y b.tree far in
    let outer = sided-counts side x near far in (
      record {
        became = record {
          tree = c.tree;
          fewer = λ i. omega (arith, c.counts i, inner i, outer i, b.fewer i);
          height_is = omega (arith, c.height_is, sided-height side x near far fork.heights);
          colour = c.colour;
          stands = c.stands;
          keeps = Changes-within (λ i none. omega (arith, inner i, outer i, b.fewer i)) (Changes-more b.keeps c.keeps);
        };
        counts = λ i. omega (arith, c.counts i, inner i, outer i, lost.counts i);
        some = lost.some;
        within = lost.within;
      },
      c.items,
    )

-- ---- where the walk goes on

pub subtree-within : {region : Region} {map : List Val} {at depth : ℕ} → Subtree region map at depth → at ≤ region.nodes
subtree-within h = stands-within (stands_of h)

pub go-below : {region : Region} (side : Side) {at depth : ℕ} {x : Node} {before mid : List Val} → FitsTree region →
    IsRead region at x before mid → (at ≡ 0 → ⊥) → Subtree region before at depth →
    Subtree region mid (child side x) (depth - 1)
go-below {region} side {depth} {x} has read some h =
    rw read.same (part_of (read_root side has read some h))

pub depth-some : {region : Region} {at depth : ℕ} {x : Node} {before mid : List Val} → FitsTree region →
    IsRead region at x before mid → (at ≡ 0 → ⊥) → Subtree region before at depth → 0 < depth
depth-some has read some h =
    let r = read_root Left has read some h in
    omega arith

-- ---- the least key

pub take-least-here : {region : Region} {at : ℕ} (depth : ℕ) {x : Node} (cut : Cut) {before mid : List Val}
    (after : List Val) → FitsTree region → (at ≡ 0 → ⊥) → x.left ≡ 0 → IsRead region at x before mid →
    Hoists region x.right x.red cut mid after → TakesLeast region at depth (record { node = x; cut = cut }) before after
take-least-here {region} depth {x} cut after has some none read does h =
    let r = read_root Left has read some h in
    let (lost, items) = hoisted cut after none (rw read.same at does) r in
    record {
      loses = lost;
      items = ap items_of r.tree ∙ ap (λ l. items_of l ++ item_of x ∷ items_of r.far)
          (missing_child none r.fork.near_stands) ∙ ap (λ xs. item_of x ∷ xs) (sym items);
    }

pub take-least-below : {region : Region} {at : ℕ} (depth : ℕ) {x p : Node} (least : Least) (cut : Cut)
    {before mid : List Val} (two after : List Val) → FitsTree region → (at ≡ 0 → ⊥) →
    p ≡ with_child Left least.cut.root x → IsRead region at x before mid →
    TakesLeast region x.left (depth - 1) least mid two → Closes region Left x p least.cut.fell cut two after →
    TakesLeast region at depth (record { node = least.node; cut = cut }) before after
unfolding part_of
take-least-below {region} depth {x} least cut two after has some p_is read does closes h =
    let r = read_root Left has read some h in
    let first = (rw read.same at does) (part_of r) in
    let (whole, items) = loses-below x.key x.value cut after r.fork r.once p_is first.loses closes in
    rw r.tree (record {
      loses = whole;
      items = ap (λ xs. xs ++ item_of x ∷ items_of r.far) first.items ∙ ap (λ xs. item_of least.node ∷ xs) (sym items);
    })

-- ---- the root's own key

-- a node with one child or none
pub remove-only : {region : Region} (side : Side) (depth : ℕ) {n : ℕ} (x : Node) (cut : Cut) (before after : List Val) →
    FitsTree region → 0 < x.number → child side x ≡ 0 → n ≡ child (other side) x →
    Hoists region n x.red cut before after →
    RemovesRoot region x depth (record { number = x.number; cut = cut }) before after
remove-only {region} side depth x cut before after has some none n_is does read h =
    let r = read_root side has read (λ e. omega arith) h in
    let is_leaf = missing_child none r.fork.near_stands in
    let order = subst (λ l. IsOrdered h.low h.high (sided side x l r.far)) is_leaf r.order in
    let (lost, items) = hoisted cut after none (rw n_is at does) r in
    record {
      loses = lost;
      present = rw (r.tree, value_of-root side x.key h.low h.high x r.near r.far r.order refl) refl;
      items = items ∙ sym (ap (λ t. without_item x.key (items_of t)) (r.tree ∙ ap (λ l. sided side x l r.far) is_leaf) ∙
          without_item-only side x.key h.low h.high x r.far order refl);
    }

-- a node with two children gets the next key
pub remove-between : {region : Region} (depth : ℕ) (x : Node) {p : Node} (least : Least) (cut : Cut)
    (before two after : List Val) → FitsTree region → 0 < x.number →
    p ≡ with_child Right least.cut.root (record x { key = least.node.key; value = least.node.value }) →
    TakesLeast region x.right (depth - 1) least before two → Closes region Right x p least.cut.fell cut two after →
    RemovesRoot region x depth (record { number = least.node.number; cut = cut }) before after
unfolding part_of
remove-between {region} depth x least cut before two after has some p_is does closes read h =
    let r = read_root Right has read (λ e. omega arith) h in
    let first = does (part_of r) in
    let (whole, items) = loses-below least.node.key least.node.value cut after r.fork r.once p_is first.loses closes in
    rw r.tree (record {
      loses = whole;
      present = rw (value_of-root Right x.key h.low h.high x r.near r.far r.order refl) refl;
      items = items ∙ ap (λ xs. items_of r.far ++ xs) (sym first.items) ∙ sym
          (without_item-here x.key h.low x r.far r.near r.order.0 refl);
    })

-- ---- a key below the root

-- a node that was read is what stands in the map
pub read-again : {region : Region} {at : ℕ} {x : Node} {before mid : List Val} → IsRead region at x before mid →
    IsRead region x.number x mid mid
read-again {region} {before} read = rw read.same (record {
  number = refl;
  value = ap (λ i. value_at before (object_of region i)) read.number ∙ read.value;
  left = read.left;
  right = read.right;
  same = refl;
})

pub remove-here : {region : Region} {at : ℕ} (depth : ℕ) {key : ℕ} {x : Node} (removed : Removed)
    {before mid : List Val} (after : List Val) → key ≡ x.key → IsRead region at x before mid →
    RemovesRoot region x depth removed mid after → RemovesIf region key at depth (Some removed) before after
remove-here {region} {at} depth {x} removed {before} after same read does =
    rw (same, ← read.number) ((rw read.same at does) (rw read.same at (read-again read)))

pub remove-none : {region : Region} (side : Side) {at : ℕ} (depth key : ℕ) {x : Node} {before mid : List Val}
    (two : List Val) → FitsTree region → (at ≡ 0 → ⊥) → IsToward side key x.key → IsRead region at x before mid →
    RemovesIf region key (child side x) (depth - 1) None before two → RemovesIf region key at depth None before two
unfolding part_of
remove-none side depth key {x} two has some way read does h =
    let r = read_root side has read some h in
    let none = does (part_of r) in (
      ap (λ t. value_of key (items_of t)) r.tree ∙ value_of-toward side key h.low h.high x r.near r.far r.order way ∙
          none.0,
      none.1,
    )

pub remove-some : {region : Region} (side : Side) {at : ℕ} (depth key : ℕ) {x p : Node} (removed : Removed) (cut : Cut)
    {before mid : List Val} (two after : List Val) → FitsTree region → (at ≡ 0 → ⊥) → IsToward side key x.key →
    p ≡ with_child side removed.cut.root x → IsRead region at x before mid →
    RemovesIf region key (child side x) (depth - 1) (Some removed) before two →
    Closes region side x p removed.cut.fell cut two after →
    RemovesIf region key at depth (Some (record { number = removed.number; cut = cut })) before after
unfolding part_of
remove-some side depth key {x} removed cut two after has some way p_is read does closes h =
    let r = read_root side has read some h in
    let taken = does (part_of r) in
    let (whole, items) = loses-below x.key x.value cut after r.fork r.once p_is taken.loses closes in
    rw r.tree (record {
      loses = whole;
      present = rw (value_of-toward side key h.low h.high x r.near r.far r.order way) taken.present;
      items = items ∙ without_item-toward side key h.low h.high x r.near r.far taken.loses.became.tree r.order way
          taken.items;
    })
