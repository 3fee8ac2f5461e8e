-- A node whose subtree on a side may have fallen is balanced again.
use Rattle.dstm_tree.proofs.Base.{◌≡◌, ℕ, ◌+◌, ◌<◌, ◌≤◌, Bool, true, false, List, arith, refl, sym, ◌∙◌, ap, subst, Val}
use Rattle.dstm_tree.proofs.Base.{Region, Node, Side, Cut, other, Tree, is_red, count_of, black_height, object_of}
use Rattle.dstm_tree.proofs.Base.{FitsTree, IsRead, Stands, Fork, child, with_child, with_red, sided, val_of, Sets}
use Rattle.dstm_tree.proofs.Base.{false_from_ne_true, Updates, IsCut, fall_of, blackness, Gap, HasGap, Fall, HasFall}
use Rattle.dstm_tree.proofs.Base.{Closes, Ghosts, Lifts, Ok, Steps, not, one_at, with_set}
use Rattle.dstm_tree.proofs.Kept.{Stands-kept, Changes-more, Changes-within, wrote}
use Rattle.dstm_tree.proofs.Sides.{child-set, child-kept, child-kept_too, sided-counts, on-counts, sided-height}
use Rattle.dstm_tree.proofs.Sides.{items-near, turned}
use Rattle.dstm_tree.proofs.Forks.{forked_read, missing_child, written}
use Rattle.dstm_tree.proofs.Stepping.{steps-as, steps-then}

-- nothing fell
pub close-kept : {region : Region} {side : Side} {held p : Node} {fell : Bool} {near far : Tree} {before : List Val}
    (after : List Val) → Gap region side held p fell near far before → fell ≡ false →
    Updates region held p before after → IsCut region (sided side p near far) (black_height far + blackness p.red) p.red
    (record { root = p.number; fell = false }) before after
close-kept {region} {side} {p} {near} {far} {before} after h still update =
    let set = update h.held_is in
    let changes = wrote region p.number (val_of p) before after h.number set in
    let same : black_height near ≡ black_height far = omega (arith, ap fall_of still) in
    record {
      tree = sided side p near far;
      items = refl;
      counts = λ i. refl;
      height_is = omega (arith, sided-height side p near far same);
      colour = λ red. red;
      stands = written side p h.number h.within set h.near_stands h.far_stands
          (λ i least most. omega (arith, h.once i least most, on-counts i side)) same
          (λ red. (h.near_colour red still, h.far_colour red));
      keeps = Changes-within (λ i none. omega (arith, on-counts i side)) changes;
    }

-- ---- the sibling was read

-- the subtrees of the sibling
pub record Beside (region : Region) (side : Side) (held p s : Node) (near far : Tree) (map : List Val) : Type 0 where
  pub inner : Tree
  pub outer : Tree
  pub tree : far ≡ sided side s inner outer
  pub gap : Gap region side held p true near (sided side s inner outer) map
  pub fork : Fork region map side s inner outer

beside : {region : Region} {side : Side} {held p s : Node} {near far : Tree} {before mid : List Val} →
    FitsTree region → IsRead region (child (other side) p) s before mid →
    Gap region side held p true near far before → Beside region side held p s near far before
beside {side} has read h =
    let found = forked_read side has read (λ none. omega (arith, ap black_height (missing_child none h.far_stands)))
    h.far_stands in
    record { inner = found.near; outer = found.far; tree = found.tree; gap = rw found.tree at h; fork = found.fork }

closes-beside : {region : Region} (side : Side) (red : Bool) (held p : Node) {s : Node} (cut : Cut)
    {before mid after : List Val} → FitsTree region → s.red ≡ red →
    IsRead region (child (other side) p) s before mid → Lifts region side red held p s cut before after →
    Closes region side held p true cut before after
closes-beside side red held p cut has colour read does near far h =
    let b = beside has read h in
    rw b.tree (does near b.inner b.outer (record { gap = b.gap; fork = b.fork; colour = colour })).0

has-fall : {region : Region} (side : Side) (red : Bool) (held p : Node) {s : Node} {before mid : List Val} →
    FitsTree region → s.red ≡ red → IsRead region (child (other side) p) s before mid →
    HasGap region side held p true before → HasFall region side red held p s mid
has-fall side red held p has colour read (near, (far, h)) =
    let b = beside has read h in
    rw read.same (near, (b.inner, (b.outer, record { gap = b.gap; fork = b.fork; colour = colour })))

-- behind the read of a sibling of this colour, what balances the node with it may be called, and what it does closes the gap
module _ {S E : Type 0} {M : Ghosts S E} {region : Region} (side : Side) (red : Bool) (held p : Node) {s : Node} {fell : Bool}
    {far : Side} {number : ℕ} {old mid : S} (has : FitsTree region) (colour : not s.red ≡ not red) (is_far : far ≡ other side)
    (is_child : number ≡ child far p) (lost : fell ≡ true)
    (read : Steps M region (λ node. Unit {0}) (IsRead region number) old mid (Ok s)) where
  colour_is : s.red ≡ red
  colour_is = grind arith

  pub may-lift : ((map : List Val) → M.Admits old map → HasGap region side held p fell (with_set map (M.written old))) →
      (map : List Val) → M.Admits mid map → HasFall region side red held p s (with_set map (M.written mid))
  may-lift gap map admitted =
      has-fall side red held p has colour_is (rw (is_child, is_far) at (read.does map admitted))
      (rw lost at (gap map (read.leads.narrows map admitted)))

  pub lifted : (cut : Cut) {new : S} → Steps M region (λ cut. ⊥) (Lifts region side red held p s) mid new (Ok cut) →
      Steps M region (λ cut. ⊥) (Closes region side held p fell) old new (Ok cut)
  lifted cut step = steps-as (steps-then read step) (λ never. absurd never) (λ before after h.
      rw lost (closes-beside side red held p cut has colour_is (rw (is_child, is_far) at h.first) (rw h.first.same at h.second)))

-- ---- beside a red sibling the node becomes red, and gets the sibling's near subtree

pub gap-below : {region : Region} {side : Side} {held p s : Node} {near a c : Tree} {before : List Val} →
    Fork region before side s a c → s.red ≡ true → Gap region side held p true near (sided side s a c) before →
    Gap region side held (with_red true (with_child (other side) (child side s) p)) true near a before
gap-below {region} {side} {p} {s} {near} {a} {c} {before} fork red h = record {
  number = h.number;
  within = h.within;
  held_is = h.held_is;
  near_stands = rw (child-kept_too side (child side s) p) h.near_stands;
  far_stands = rw (child-set (other side) (child side s) p) fork.near_stands;
  once = λ i least most. omega (arith, h.once i least most, on-counts i side);
  heights = omega (arith, sided-height side s a c fork.heights, ap blackness red);
  near_colour = λ _ e. absurd (cc e);
  far_colour = λ _. (fork.colours red).0;
}

-- the near child x of the red sibling was read
beside_below : {region : Region} {side : Side} {held p s x : Node} {near inner outer : Tree} {before mid : List Val} →
    FitsTree region → IsRead region (child side s) x before mid →
    Fall region side true held p s near inner outer before →
    (b : Beside region side held (with_red true (with_child (other side) (child side s) p)) x near inner before)
    × (x.red ≡ false)
beside_below {side} {p} {s} {mid} has read h =
    let b = beside {p = with_red true (with_child (other side) (child side s) p)} {mid = mid} has
    (rw (child-set (other side) (child side s) p) read) (gap-below h.fork h.colour h.gap) in
    (b, sym (ap is_red b.tree) ∙ (h.fork.colours h.colour).0)

pub has-fall_below : {region : Region} (side : Side) (held p s : Node) {x : Node} {before mid : List Val} →
    FitsTree region → IsRead region (child side s) x before mid → HasFall region side true held p s before →
    HasFall region side false held (with_red true (with_child (other side) (child side s) p)) x mid
has-fall_below side held p s has read (near, (inner, (outer, h))) =
    let (b, black) = beside_below has read h in
    rw read.same (near, (b.inner, (b.outer, record { gap = b.gap; fork = b.fork; colour = black })))

-- the lower tree is lifted, and hangs below the sibling, which becomes black
pub lifts-red : {region : Region} (side : Side) (held p s : Node) {x : Node} (cut : Cut)
    {before mid two after : List Val} → FitsTree region → IsRead region (child side s) x before mid →
    Lifts region side false held (with_red true (with_child (other side) (child side s) p)) x cut before two →
    Sets (object_of region s.number) (val_of (with_red false (with_child side cut.root s))) two after →
    Lifts region side true held p s (record { root = s.number; fell = false }) before after
lifts-red {region} side held p s cut {before} {two} {after} has read does set near a c h =
    let (b, black_x) = beside_below has read h in
    let lifted = does near b.inner b.outer (record { gap = b.gap; fork = b.fork; colour = black_x }) in
    let p' = with_red true (with_child (other side) (child side s) p) in
    let s' = with_red false (with_child side cut.root s) in
    let below : IsCut region (sided side p' near a) (black_height a + blackness true) true cut before two =
    rw b.tree lifted.0 in
    let still = ap fall_of (false_from_ne_true cut.fell (λ e. cc (lifted.1 e))) in
    let black = false_from_ne_true p.red (λ e. cc (h.gap.far_colour e, h.colour)) in
    let once : (i : ℕ) → 0 < i → i ≤ region.nodes →
    one_at p.number i + count_of i near + (one_at s.number i + count_of i a + count_of i c) ≤ 1 =
    λ i least most. omega (arith, h.gap.once i least most, on-counts i side) in
    let inside : (i : ℕ) → count_of i (sided side p' near a) ≡ one_at p.number i + count_of i near + count_of i a =
    sided-counts side p' near a in
    let changes = wrote region s.number (val_of s') two after h.fork.number set in
    let same : black_height below.tree ≡ black_height c = omega arith in (
      record {
        tree = sided side s' below.tree c;
        items = items-near side s below.tree (sided side p' near a) c below.items ∙ turned side p s p' s near a c refl
            refl;
        counts = λ i. omega (arith, below.counts i, inside i, on-counts i side);
        height_is = omega (
          arith,
          sided-height side s' below.tree c same,
          sided-height side s a c h.fork.heights,
          ap blackness h.colour,
          ap blackness black,
        );
        colour = λ e. absurd (cc e);
        stands = written side s' h.fork.number h.fork.within set
            (subst (λ n. Stands region two n below.tree) (sym (child-set side cut.root s)) below.stands)
            (subst (λ n. Stands region two n c) (sym (child-kept side cut.root s)) (Stands-kept below.keeps
            (λ i least most some. omega (arith, once i least most, inside i)) h.fork.far_stands))
            (λ i least most. omega (arith, once i least most, below.counts i, inside i)) same (λ e. absurd (cc e));
        keeps = Changes-within (λ i none. omega (arith, inside i, on-counts i side)) (Changes-more below.keeps changes);
      },
      λ e. absurd (cc e),
    )
