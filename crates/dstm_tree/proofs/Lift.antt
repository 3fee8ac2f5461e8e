-- A subtree that has fallen beside a black sibling is lifted.
use Rattle.dstm_tree.proofs.Base.{◌≡◌, ℕ, ◌+◌, ◌<◌, ◌≤◌, Bool, true, false, List, arith, refl, sym, ◌∙◌, ap, subst, not}
use Rattle.dstm_tree.proofs.Base.{Some, None, not-true, Val, Region, Node, Side, Cut, other, Tree, items_of, count_of}
use Rattle.dstm_tree.proofs.Base.{black_height, Stands, child, with_child, with_red, sided, val_of, IsCut, fall_of}
use Rattle.dstm_tree.proofs.Base.{blackness, Arranges, Recolours, Lifts, FindsRed, IsRedFork, one_at}
use Rattle.dstm_tree.proofs.Kept.{one_at-self, Changes-more, Changes-within, wrote, Sets-apart}
use Rattle.dstm_tree.proofs.Sides.{child-set, child-kept, child-kept_too, on-counts, sided-height, items-far, turned}
use Rattle.dstm_tree.proofs.Forks.{still, written}

pub falls_unless_red : (red : Bool) → fall_of (not red) ≡ blackness red
falls_unless_red true = refl
falls_unless_red false = refl

-- two black nodes under one of a colour are the balanced tree that stands for t
--
--              z
--            /   \
--           x     y
--          / \   / \
--         a   b c   d
rearranged : (region : Region) (side : Side) (x y z : Node) (a b c d t : Tree) (height : ℕ) (red : Bool) (cut : Cut)
    (before after : List Val) → Arranges region x y z cut before after → 0 < x.number → x.number ≤ region.nodes →
    0 < y.number → y.number ≤ region.nodes → 0 < z.number → z.number ≤ region.nodes → x.red ≡ false → y.red ≡ false →
    z.red ≡ red → Stands region before (child side x) a → Stands region before (child (other side) x) b →
    Stands region before (child side y) c → Stands region before (child (other side) y) d → x.number ≡ child side z →
    y.number ≡ child (other side) z → black_height a ≡ black_height b → black_height a ≡ black_height c →
    black_height c ≡ black_height d → black_height a + 1 + blackness red ≡ height →
    items_of (sided side z (sided side x a b) (sided side y c d)) ≡ items_of t →
    ((i : ℕ) → one_at z.number i + (one_at x.number i + count_of i a + count_of i b)
    + (one_at y.number i + count_of i c + count_of i d) ≡ count_of i t) →
    ((i : ℕ) → 0 < i → i ≤ region.nodes → count_of i t ≤ 1) → IsCut region t height red cut before after
rearranged region side x y z a b c d t height red cut before after set some_x in_x some_y in_y some_z in_z black_x
    black_y red_z sa sb sc sd x_is y_is ab ac cd height_is items counts once =
    let at : (i : ℕ) → 0 < i → i ≤ region.nodes → one_at z.number i + (one_at x.number i + count_of i a + count_of i b)
    + (one_at y.number i + count_of i c + count_of i d) ≤ 1 =
    λ i least most. omega (arith, counts i, once i least most) in
    let high_x = sided-height side x a b ab in
    let high_y = sided-height side y c d cd in
    let same : black_height (sided side x a b) ≡ black_height (sided side y c d) =
    omega (arith, ap blackness black_x, ap blackness black_y) in
    let one = written side x some_x in_x set.first sa sb (λ i least most. omega (arith, at i least most)) ab
    (λ e. absurd (cc (e, black_x))) in
    let near = still y.number some_y set.second
    (λ i least most. omega (arith, at i least most, on-counts i side)) one in
    let far = written side y some_y in_y set.second
    (still x.number some_x set.first (λ i least most. omega (arith, at i least most)) sc)
    (still x.number some_x set.first (λ i least most. omega (arith, at i least most)) sd)
    (λ i least most. omega (arith, at i least most)) cd (λ e. absurd (cc (e, black_y))) in
    let changes = Changes-more (Changes-more (wrote region x.number (val_of x) before set.one some_x set.first)
    (wrote region y.number (val_of y) set.one set.two some_y set.second))
    (wrote region z.number (val_of z) set.two after some_z set.third) in
    record {
      tree = sided side z (sided side x a b) (sided side y c d);
      items = items;
      counts = λ i. omega (arith, counts i, on-counts i side);
      height_is = omega (
        arith,
        sided-height side z (sided side x a b) (sided side y c d) same,
        ap blackness black_x,
        ap blackness red_z,
        ap fall_of set.fell,
      );
      colour = λ e. sym red_z ∙ e;
      stands = subst (λ n. Stands region after n (sided side z (sided side x a b) (sided side y c d))) (sym set.root)
          (written side z some_z in_z set.third (subst (λ n. Stands region set.two n (sided side x a b)) x_is near)
          (subst (λ n. Stands region set.two n (sided side y c d)) y_is far)
          (λ i least most. omega (arith, at i least most, on-counts i side)) same (λ _. (black_x, black_y)));
      keeps = Changes-within (λ i none. omega (arith, counts i)) changes;
    }

-- what a black node adds to the height, and a red one
black_and_red : {sibling child : Bool} → sibling ≡ false → child ≡ true → (blackness sibling ≡ 1) × (blackness child ≡ 0)
black_and_red black red = (ap blackness black, ap blackness red)

-- the outer child of the sibling is red
pub lifts-outer : {region : Region} (side : Side) (held p s : Node) {o : Node} {cut : Cut}
    {before mid after : List Val} → FindsRed region (child (other side) s) (Some o) before mid → Arranges region
    (with_red false (with_child (other side) (child side s) p)) (with_red false o)
    (with_red p.red (with_child side p.number s)) cut before after → Lifts region side false held p s cut before after
lifts-outer {region} side held p s {o} {cut} {before} {after} finds set near a outer above =
    let red : IsRedFork region before side outer o = finds.1 side outer above.fork.far_stands in
    let h = rw red.tree at above in
    let b = red.near in
    let c = red.far in
    let all = sided side s a (sided side o b c) in
    let p' = with_red false (with_child (other side) (child side s) p) in
    let s' = with_red p.red (with_child side p.number s) in
    let o' = with_red false o in
    let high = sided-height side s a (sided side o b c) h.fork.heights in
    let high_o = sided-height side o b c red.fork.heights in
    let colours = black_and_red h.colour red.red in (
      rw red.tree (rearranged region side p' o' s' near a b c (sided side p near all)
          (black_height all + blackness p.red) p.red cut before after set h.gap.number h.gap.within
          red.fork.number red.fork.within h.fork.number
          h.fork.within refl refl refl (rw (child-kept_too side (child side s) p) h.gap.near_stands)
          (rw (child-set (other side) (child side s) p) h.fork.near_stands) red.fork.near_stands red.fork.far_stands
          (sym (child-set side p.number s)) (h.fork.far_stands.root ∙ sym (child-kept side p.number s)) (omega arith)
          (omega arith) red.fork.heights (omega arith) (turned side p s p' s' near a (sided side o' b c) refl refl ∙
          items-far side p near (sided side s a (sided side o' b c)) all
          (items-far side s a (sided side o' b c) (sided side o b c) refl))
          (λ i. omega (arith, on-counts i side)) h.gap.once),
      λ e. absurd (cc (e, set.fell)),
    )

-- the inner child of the sibling is red: it comes up
pub lifts-inner : {region : Region} (side : Side) (held p s : Node) {o : Node} {cut : Cut}
    {before mid after : List Val} → FindsRed region (child side s) (Some o) before mid → Arranges region
    (with_red false (with_child (other side) (child side o) p)) (with_child side (child (other side) o) s)
    (with_red p.red (with_child (other side) s.number (with_child side p.number o))) cut before after →
    Lifts region side false held p s cut before after
lifts-inner {region} side held p s {o} {cut} {before} {after} finds set near inner c above =
    let red : IsRedFork region before side inner o = finds.1 side inner above.fork.near_stands in
    let h = rw red.tree at above in
    let a = red.near in
    let b = red.far in
    let all = sided side s (sided side o a b) c in
    let p' = with_red false (with_child (other side) (child side o) p) in
    let s' = with_child side (child (other side) o) s in
    let o' = with_red p.red (with_child (other side) s.number (with_child side p.number o)) in
    let high = sided-height side s (sided side o a b) c h.fork.heights in
    let high_o = sided-height side o a b red.fork.heights in
    let colours = black_and_red h.colour red.red in (
      rw red.tree (rearranged region side p' s' o' near a b c (sided side p near all)
          (black_height all + blackness p.red) p.red cut before after set h.gap.number h.gap.within
          h.fork.number h.fork.within red.fork.number
          red.fork.within refl h.colour refl (rw (child-kept_too side (child side o) p) h.gap.near_stands)
          (rw (child-set (other side) (child side o) p) red.fork.near_stands)
          (rw (child-set side (child (other side) o) s) red.fork.far_stands)
          (rw (child-kept side (child (other side) o) s) h.fork.far_stands)
          (sym (child-kept_too side s.number (with_child side p.number o) ∙ child-set side p.number o))
          (sym (child-set (other side) s.number (with_child side p.number o))) (omega arith) (omega arith) (omega arith)
          (omega arith) (turned side p o p' o' near a (sided side s' b c) refl refl ∙ items-far side p near
          (sided side o a (sided side s' b c)) all (sym (turned side o s o s' a b c refl refl)))
          (λ i. omega (arith, on-counts i side)) h.gap.once),
      λ e. absurd (cc (e, set.fell)),
    )

-- both children of the sibling are black: it becomes red
pub lifts-none : {region : Region} (side : Side) {held p s : Node} {cut : Cut} {before mid next after : List Val} →
    FindsRed region (child (other side) s) None before mid → FindsRed region (child side s) None before next →
    Recolours region held p s cut before after → Lifts region side false held p s cut before after
lifts-none {region} side {held} {p} {s} {cut} {before} {after} sees_far sees_near set near a c h =
    let all = sided side s a c in
    let p' = with_red false p in
    let s' = with_red true s in
    let once : (i : ℕ) → 0 < i → i ≤ region.nodes →
    one_at p.number i + count_of i near + (one_at s.number i + count_of i a + count_of i c) ≤ 1 =
    λ i least most. omega (arith, h.gap.once i least most, on-counts i side) in
    let apart : one_at p.number s.number ≡ 0 =
    omega (arith, once s.number h.fork.number h.fork.within, one_at-self s.number) in
    let set_p = set.second
    (Sets-apart region s.number p.number (val_of s') before set.mid apart set.first ∙ h.gap.held_is) in
    let changes = Changes-more (wrote region s.number (val_of s') before set.mid h.fork.number set.first)
    (wrote region p.number (val_of p') set.mid after h.gap.number set_p) in
    let high = sided-height side s a c h.fork.heights in
    let high' = sided-height side s' a c h.fork.heights in
    let black = ap blackness h.colour in
    let far = written side s' h.fork.number h.fork.within set.first h.fork.near_stands h.fork.far_stands
    (λ i least most. omega (arith, once i least most)) h.fork.heights
    (λ _. (sees_near.1 side a h.fork.near_stands, sees_far.1 side c h.fork.far_stands)) in
    let near_too = still s.number h.fork.number set.first (λ i least most. omega (arith, once i least most))
    h.gap.near_stands in
    let same : black_height near ≡ black_height (sided side s' a c) = omega arith in (
      rw set.cut_is (record {
        tree = sided side p' near (sided side s' a c);
        items = items-far side p near (sided side s' a c) all refl;
        counts = λ i. omega (arith, on-counts i side);
        height_is = omega (arith, sided-height side p' near (sided side s' a c) same, falls_unless_red p.red);
        colour = λ e. absurd (cc e);
        stands = written side p' h.gap.number h.gap.within set_p near_too
            (subst (λ n. Stands region set.mid n (sided side s' a c)) h.gap.far_stands.root far)
            (λ i least most. omega (arith, once i least most, on-counts i side)) same (λ e. absurd (cc e));
        keeps = Changes-within (λ i none. omega (arith, on-counts i side)) changes;
      }),
      λ e. not-true p.red (ap (λ (c : Cut). c.fell) (sym set.cut_is) ∙ e),
    )
