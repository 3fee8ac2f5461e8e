-- What was placed below a node is placed at the node.
use Rattle.dstm_tree.proofs.Base.{◌≡◌, ℕ, ◌+◌, ◌<◌, ◌≤◌, true, false, List, arith, refl, sym, ◌∙◌, ap, subst, Val}
use Rattle.dstm_tree.proofs.Base.{Region, Node, Side, Left, Right, Placed, Full, Found, Added, Root, Pair, Request}
use Rattle.dstm_tree.proofs.Base.{other, on, IsToward, Tree, number_of, is_red, items_of, count_of, false_from_ne_true}
use Rattle.dstm_tree.proofs.Base.{black_height, object_of, FitsNode, Stands, child, with_child, with_red, sided, val_of}
use Rattle.dstm_tree.proofs.Base.{Sets, free_count, Keeps, Grows, IsFull, Replaces, AddsBelow, AddsRoot, AddsPair}
use Rattle.dstm_tree.proofs.Base.{Parent, IsSettled, LeavesAll, blackness, one_at}
use Rattle.dstm_tree.proofs.Kept.{one_at-self, Holds-kept, IsFree-kept, Changes-more, wrote}
use Rattle.dstm_tree.proofs.Sides.{other-other, child-set, child-kept, child-kept_too, sided-other, sided-counts}
use Rattle.dstm_tree.proofs.Sides.{on-counts, sided-height, items-near, items-far, turned}
use Rattle.dstm_tree.proofs.Items.{value_of-toward, with_item-toward, with_item-toward_if}
use Rattle.dstm_tree.proofs.Forks.{stand, still, written, not_red}

-- ---- what was placed, seen from a side

-- another tree with the same items
pub Grows-shape : (q : Request) (t : Tree) (free : List ℕ) (u v : Tree) (rest : List ℕ) → Grows q t free u rest →
    items_of v ≡ items_of u → ((i : ℕ) → count_of i v ≡ count_of i u) → black_height v ≡ black_height u →
    Grows q t free v rest
Grows-shape q t free u v rest h items counts height = record {
  absent = h.absent;
  items = items ∙ h.items;
  counts = λ i. omega (arith, counts i, h.counts i);
  height = height ∙ h.height;
}

root-other : {region : Region} {side : Side} {x : Node} {q : Request} {t : Tree} {free : List ℕ}
    {before after : List Val} → AddsRoot region side x q t free before after →
    AddsRoot region (other side) x q t free before after
root-other {region} {side} {x} {q} {t} {free} {after} h = record {
  near = h.far;
  far = h.near;
  rest = h.rest;
  grows = rw (sided-other side x h.far h.near) h.grows;
  red = h.red;
  number = h.number;
  near_stands = h.far_stands;
  far_stands = rw (other-other side x) h.near_stands;
  heights = sym h.heights;
  near_black = h.far_black;
  far_black = h.near_black;
  keeps = h.keeps;
}

-- either side of the root may be called near
pub root-on : {region : Region} {from : Side} (to : Side) {x : Node} {q : Request} {t : Tree} {free : List ℕ}
    {before after : List Val} → AddsRoot region from x q t free before after →
    AddsRoot region to x q t free before after
root-on {from = Left} Left h = h
root-on {from = Left} Right h = root-other h
root-on {from = Right} Left h = root-other h
root-on {from = Right} Right h = h

-- the upper of the two nodes is seen as the lower one from the other side
pair-other : {region : Region} {side : Side} {x y : Node} {q : Request} {t : Tree} {free : List ℕ}
    {before after : List Val} → AddsPair region side x y q t free before after →
    AddsPair region (other side) y x q t free before after
pair-other {region} {side} {x} {y} {q} {t} {free} {after} h =
    let lower = sided side x h.first h.middle in
    let old = sided side y lower h.last in
    let upper = sided (other side) y h.last h.middle in
    let new = sided (other side) x upper h.first in
    let upper_is = sided-other side y h.last h.middle in
    let new_is : new ≡ sided side x h.first (sided side y h.middle h.last) =
    sided-other side x upper h.first ∙ ap (λ u. sided side x h.first u) upper_is in
    let flat = ap blackness h.outer_red in
    let flat_too = ap blackness h.inner_red in
    let lower_height = sided-height side x h.first h.middle h.first_height in
    let upper_height = sided-height side y h.middle h.last (sym h.last_height) in
    let tall = sided-height side x h.first (sided side y h.middle h.last) (omega arith) in
    let old_tall = sided-height side y lower h.last (omega arith) in
    let same : black_height new ≡ black_height old = omega (arith, ap black_height new_is) in
    record {
      first = h.last;
      middle = h.middle;
      last = h.first;
      rest = h.rest;
      grows = Grows-shape q t free old new h.rest h.grows
          (ap items_of new_is ∙ sym (turned side x y x y h.first h.middle h.last refl refl))
          (λ i. omega (arith, ap (count_of i) new_is, on-counts i side)) same;
      was_red = h.was_red;
      outer_red = h.inner_red;
      inner_red = h.outer_red;
      outer_number = h.inner_number;
      inner_number = h.outer_number;
      first_stands = h.last_stands;
      middle_stands = rw (other-other side y, h.middle_is) h.middle_stands;
      middle_is = sym (other-other side y ∙ h.middle_is);
      last_stands = rw (other-other side x) h.first_stands;
      first_height = h.last_height;
      last_height = h.first_height;
      keeps = h.keeps;
    }

pub pair-seen : {region : Region} (side : Side) {x y : Node} {q : Request} {t : Tree} {free : List ℕ}
    {before after : List Val} → AddsPair region Left x y q t free before after →
    AddsPair region side (on side x y) (on side y x) q t free before after
pair-seen Left h = h
pair-seen Right h = pair-other h

pub pair-told : {region : Region} {side : Side} {x y : Node} {q : Request} {t : Tree} {free : List ℕ}
    {before after : List Val} → AddsPair region side x y q t free before after →
    AddsPair region Left (on side x y) (on side y x) q t free before after
pair-told {side = Left} h = h
pair-told {side = Right} h = pair-other h

-- the tree and the chain keep what they kept before two of their nodes were written
Keeps-written : (region : Region) (x y : ℕ) (vx vy : Val) (t : Tree) (free rest : List ℕ)
    (start before mid after : List Val) → 0 < x → 0 < y → Sets (object_of region x) vx before mid →
    Sets (object_of region y) vy mid after → ((i : ℕ) → one_at x i + one_at y i ≤ count_of i t + free_count i free) →
    ((i : ℕ) → 0 < i → i ≤ region.nodes → one_at x i + one_at y i + free_count i rest ≤ 1) →
    Keeps region t free rest start before → Keeps region t free rest start after
Keeps-written region x y vx vy t free rest start before mid after some_x some_y set_x set_y within once h =
    let changes = Changes-more (wrote region x vx before mid some_x set_x) (wrote region y vy mid after some_y set_y) in
    record {
      root = changes.root ∙ h.root;
      nodes = λ i least most none. changes.nodes i least most (omega (arith, within i)) ∙ h.nodes i least most none;
      chain = IsFree-kept changes (λ i least most some. omega (arith, once i least most)) h.chain;
    }

-- ---- a key is placed on a side of a node

module _ {region : Region} {side : Side} {p : Node} {near far : Tree} {free : List ℕ} {start : List Val} (q : Request)
    (h : Parent region side p near far free start) (way : IsToward side q.key p.key) where
  -- ---- a tree grows as one of its subtrees does, and the other one stays

  Grows-near : (u : Tree) (rest : List ℕ) → Grows q near free u rest →
      Grows q (sided side p near far) free (sided side p u far) rest
  Grows-near u rest grows = record {
    absent = value_of-toward side q.key h.low h.high p near far h.order way ∙ grows.absent;
    items = with_item-toward side q.key q.value h.low h.high p near far u h.order way grows.items;
    counts = λ i. omega (arith, grows.counts i, on-counts i side);
    height = sided-height side p u far (grows.height ∙ h.fork.heights) ∙ ap (λ n. n + blackness p.red) grows.height ∙
        sym (sided-height side p near far h.fork.heights);
  }

  once-in : (i : ℕ) → 0 < i → i ≤ region.nodes →
      one_at p.number i + count_of i near + count_of i far + free_count i free ≤ 1
  once-in i least most =
      omega (arith, h.once i least most, on-counts i side)

  Keeps-whole : (rest : List ℕ) (after : List Val) → Keeps region near free rest start after →
      Keeps region (sided side p near far) free rest start after
  Keeps-whole rest after h = record {
    root = h.root;
    nodes = λ i least most none. h.nodes i least most (omega (arith, on-counts i side));
    chain = h.chain;
  }

  far-kept : (rest : List ℕ) (after : List Val) → Keeps region near free rest start after →
      Stands region after (child (other side) p) far
  far-kept rest after keeps = record {
    root = h.fork.far_stands.root;
    nodes = Holds-kept region start after far
        (λ i least most some. keeps.nodes i least most (omega (arith, once-in i least most))) h.fork.far_stands.nodes;
    balanced = h.fork.far_stands.balanced;
  }

  -- the node with another near subtree, where only that was changed
  hang : (u : Tree) (rest : List ℕ) (after : List Val) → Keeps region near free rest start after →
      Stands region after (number_of near) u → black_height u ≡ black_height near →
      (is_red near ≡ false → is_red u ≡ false) → Stands region after p.number (sided side p u far)
  hang u rest after keeps stands height colour =
      stand region after side p u far (record {
        number = h.fork.number;
        within = h.fork.within;
        value = keeps.nodes p.number h.fork.number h.fork.within
            (omega (arith, once-in p.number h.fork.number h.fork.within, one_at-self p.number)) ∙ h.fork.value;
        near_stands = subst (λ n. Stands region after n u) h.fork.near_stands.root stands;
        far_stands = far-kept rest after keeps;
        heights = height ∙ h.fork.heights;
        colours = λ red. (colour (h.fork.colours red).0, (h.fork.colours red).1);
      })

  pub attach-full : (after : List Val) → IsFull q near free start after →
      IsFull q (sided side p near far) free start after
  attach-full after full = record {
    absent = value_of-toward side q.key h.low h.high p near far h.order way ∙ full.absent;
    none = full.none;
    same = full.same;
  }

  pub attach-found : (after : List Val) → Replaces region q near free start after →
      Replaces region q (sided side p near far) free start after
  attach-found after found = record {
    tree = sided side p found.tree far;
    present = rw (value_of-toward side q.key h.low h.high p near far h.order way) found.present;
    items = with_item-toward_if q.replaces side q.key q.value h.low h.high p near far found.tree h.order way
        found.items;
    counts = λ i. omega (arith, found.counts i, on-counts i side);
    height = sided-height side p found.tree far (found.height ∙ h.fork.heights) ∙ ap (λ n. n + blackness p.red)
        found.height ∙ sym (sided-height side p near far h.fork.heights);
    colour = refl;
    stands = hang found.tree free after found.keeps found.stands found.height (λ black. found.colour ∙ black);
    keeps = Keeps-whole free after found.keeps;
  }

  pub attach-added : (after : List Val) → AddsBelow region q near free start after →
      AddsBelow region q (sided side p near far) free start after
  attach-added after added = record {
    tree = sided side p added.tree far;
    rest = added.rest;
    grows = Grows-near added.tree added.rest added.grows;
    colour = λ e. e;
    stands = hang added.tree added.rest after added.keeps added.stands added.grows.height
        (λ black. not_red added.tree near added.colour black);
    keeps = Keeps-whole added.rest after added.keeps;
  }

  -- a red node under a red one
  pub attach-pair : (x : Node) (after : List Val) → p.red ≡ true → AddsRoot region side x q near free start after →
      AddsPair region side x (with_child side (child (other side) x) p) q (sided side p near far) free start after
  attach-pair x after red added =
      let under = sided side x added.near added.far in
      let high = sided-height side x added.near added.far added.heights in
      record {
        first = added.near;
        middle = added.far;
        last = far;
        rest = added.rest;
        grows = Grows-near under added.rest added.grows;
        was_red = red;
        outer_red = added.red;
        inner_red = red;
        outer_number = added.number;
        inner_number = h.fork.number;
        first_stands = added.near_stands;
        middle_stands = added.far_stands;
        middle_is = child-set side (child (other side) x) p;
        last_stands = rw (child-kept side (child (other side) x) p) (far-kept added.rest after added.keeps);
        first_height = added.heights;
        last_height = omega (arith, ap blackness added.red);
        keeps = Keeps-whole added.rest after added.keeps;
      }

  -- a red node under a black one
  pub attach-hung : (x : Node) (before mid after : List Val) → x.number ≤ region.nodes → p.red ≡ false →
      AddsRoot region side x q near free start before → Sets (object_of region x.number) (val_of x) before mid →
      Sets (object_of region p.number) (val_of (with_child side x.number p)) mid after →
      AddsBelow region q (sided side p near far) free start after
  attach-hung x before mid after in_x black added set_x set_p =
      let under = sided side x added.near added.far in
      let p' = with_child side x.number p in
      let grows = Grows-near under added.rest added.grows in
      let inner = sided-counts side x added.near added.far in
      let once : (i : ℕ) → 0 < i → i ≤ region.nodes → one_at p.number i + (one_at x.number i + count_of i added.near
      + count_of i added.far) + count_of i far + free_count i added.rest ≤ 1 =
      λ i least most. omega (arith, added.grows.counts i, inner i, once-in i least most) in
      let hung = written side x added.number in_x set_x added.near_stands added.far_stands
      (λ i least most. omega (arith, once i least most)) added.heights (λ _. (added.near_black, added.far_black)) in
      let beside = still x.number added.number set_x (λ i least most. omega (arith, once i least most))
      (far-kept added.rest before added.keeps) in
      record {
        tree = sided side p' under far;
        rest = added.rest;
        grows = grows;
        colour = λ e. e;
        stands = written side p' h.fork.number h.fork.within set_p
            (subst (λ n. Stands region mid n under) (sym (child-set side x.number p)) hung)
            (subst (λ n. Stands region mid n far) (sym (child-kept side x.number p)) beside)
            (λ i least most. omega (arith, once i least most, inner i)) (added.grows.height ∙ h.fork.heights)
            (λ red. absurd (cc (red, black)));
        keeps = Keeps-written region x.number p.number (val_of x) (val_of p') (sided side p near far) free added.rest
            start before mid after added.number h.fork.number set_x set_p
            (λ i. omega (arith, added.grows.counts i, inner i, on-counts i side))
            (λ i least most. omega (arith, once i least most)) (Keeps-whole added.rest before added.keeps);
      }

  -- two red nodes under a black one: a rotation
  --
  --              p               inner
  --            /   \             /   \
  --        inner    far      outer     p
  --        /   \             / \      / \
  --    outer    c           a   b    c   far
  --     / \
  --    a   b
  pub attach-rotated : (x y : Node) (before mid after : List Val) → x.number ≤ region.nodes →
      AddsPair region side x y q near free start before →
      Sets (object_of region x.number) (val_of (with_red false x)) before mid →
      Sets (object_of region p.number) (val_of (with_child side (child (other side) y) p)) mid after → AddsRoot region
      side (with_child (other side) p.number (with_child side x.number y)) q (sided side p near far) free start after
  attach-rotated x y before mid after in_x added set_x set_p =
      let a = added.first in
      let b = added.middle in
      let c = added.last in
      let lower = sided side x a b in
      let under = sided side y lower c in
      let x' = with_red false x in
      let p' = with_child side (child (other side) y) p in
      let y' = with_child (other side) p.number (with_child side x.number y) in
      let old = Grows-near under added.rest added.grows in
      let black = false_from_ne_true p.red (λ e. cc ((h.fork.colours e).0, added.was_red)) in
      let high = sided-height side x a b added.first_height in
      let high_y = sided-height side y lower c (omega (arith, ap blackness added.outer_red)) in
      let flat = ap blackness added.outer_red in
      let flat_y = ap blackness added.inner_red in
      let high_p = sided-height side p' c far (omega arith) in
      let high_x = sided-height side x' a b added.first_height in
      let same : black_height (sided side x' a b) ≡ black_height (sided side p' c far) =
      omega (arith, ap blackness black) in
      let count_x = sided-counts side x a b in
      let count_y = sided-counts side y lower c in
      let once : (i : ℕ) → 0 < i → i ≤ region.nodes → one_at y.number i
      + (one_at x.number i + count_of i a + count_of i b) + (one_at p.number i + count_of i c + count_of i far)
      + free_count i added.rest ≤ 1 =
      λ i least most. omega (arith, added.grows.counts i, count_x i, count_y i, once-in i least most) in
      let tall = sided-height side y' (sided side x' a b) (sided side p' c far) same in
      let old_tall = sided-height side p under far (added.grows.height ∙ h.fork.heights) in
      let lower_x = still p.number h.fork.number set_p
      (λ i least most. omega (arith, once i least most, on-counts i side))
      (written side x' added.outer_number in_x set_x added.first_stands added.middle_stands
      (λ i least most. omega (arith, once i least most)) added.first_height (λ e. absurd (cc e))) in
      let c_stands = subst (λ n. Stands region mid n c) (sym (child-set side (child (other side) y) p))
      (still x.number added.outer_number set_x (λ i least most. omega (arith, once i least most)) added.last_stands) in
      let far_stands = subst (λ n. Stands region mid n far) (sym (child-kept side (child (other side) y) p))
      (still x.number added.outer_number set_x (λ i least most. omega (arith, once i least most))
      (far-kept added.rest before added.keeps)) in
      let lower_p = written side p' h.fork.number h.fork.within set_p c_stands far_stands
      (λ i least most. omega (arith, once i least most)) (omega arith) (λ e. absurd (cc (e, black))) in
      record {
        near = sided side x' a b;
        far = sided side p' c far;
        rest = added.rest;
        grows = Grows-shape q (sided side p near far) free (sided side p under far)
            (sided side y' (sided side x' a b) (sided side p' c far)) added.rest old (items-near side y'
            (sided side x' a b) lower (sided side p' c far) refl ∙ items-far side y' lower (sided side p' c far)
            (sided side p c far) refl ∙ sym (turned side y p y p lower c far refl refl))
            (λ i. omega (arith, count_x i, count_y i, on-counts i side)) (omega (arith, ap blackness black));
        red = added.inner_red;
        number = added.inner_number;
        near_stands = rw (child-kept_too side p.number (with_child side x.number y), child-set side x.number y) lower_x;
        far_stands = rw (child-set (other side) p.number (with_child side x.number y)) lower_p;
        heights = same;
        near_black = refl;
        far_black = black;
        keeps = Keeps-written region x.number p.number (val_of x') (val_of p') (sided side p near far) free added.rest
            start before mid after added.outer_number h.fork.number set_x set_p
            (λ i. omega (arith, added.grows.counts i, count_x i, count_y i, on-counts i side))
            (λ i least most. omega (arith, once i least most)) (Keeps-whole added.rest before added.keeps);
      }

pub on-fits : (region : Region) (side : Side) (x y : Node) → FitsNode region x → FitsNode region y →
    FitsNode region (on side x y)
on-fits region Left x y fits_x fits_y = fits_x
on-fits region Right x y fits_x fits_y = fits_y

-- what leaves the whole as it was is settled
pub settled : (q : Request) (placed : Placed) → LeavesAll q placed → IsSettled placed
settled q Full h = tt
settled q Found h = tt
settled q Added h = h
settled q (Root x) h = h
settled q (Pair x y) h = h
