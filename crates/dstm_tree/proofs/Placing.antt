-- A key is placed in a subtree.
use Rattle.dstm_tree.proofs.Base.{◌≡◌, ℕ, ◌+◌, ◌-◌, ◌<◌, ◌≤◌, true, false, List, [], ◌∷◌, arith, refl, sym, ◌∙◌, ap}
use Rattle.dstm_tree.proofs.Base.{Val, Region, value_at, plain, Node, Side, Left, Placed, Found, Root, Request}
use Rattle.dstm_tree.proofs.Base.{IsToward, leaf, count_of, root_of, free_of, object_of, first_of, FitsTree, IsRead}
use Rattle.dstm_tree.proofs.Base.{child, sided, val_of, Reads, Sets, free_count, IsFree, IsTaken, TakesFirstFree}
use Rattle.dstm_tree.proofs.Base.{CanPlace, AddsRoot, Attaches, PlacesLeaf, Places, blackness, one_at}
use Rattle.dstm_tree.proofs.Kept.{free_count-first, IsFreeChain-kept, IsFree-kept, wrote}
use Rattle.dstm_tree.proofs.Sides.{on-counts}
use Rattle.dstm_tree.proofs.Items.{with_item-here, value_of-root}
use Rattle.dstm_tree.proofs.Forks.{stand, written}
use Rattle.dstm_tree.proofs.Search.{part_of, read_root}

-- ---- a node is taken off the free chain, and a key is placed in it

low_of : (v : Val) (n : ℕ) → v ≡ plain n → v.low ≡ n
low_of v n e = ap (λ (x : Val). x.low) e

pub taken : (region : Region) (head next : Val) (before mid two after : List Val) → (head.low ≡ 0 → ⊥) →
    Reads (free_of region) head before mid → Reads (object_of region head.low) next mid two →
    Sets (free_of region) next two after → IsTaken region head.low before after
taken region head next before mid two after some read read_next set [] h =
    absurd (some (low_of head 0 (sym read.is ∙ h.unused)))
taken region head next before mid two after some read read_next set (i ∷ rest) h =
    let first : head.low ≡ i = low_of head i (sym read.is ∙ h.unused) in
    let next_is : next ≡ plain (first_of rest) =
    sym read_next.is ∙ ap (λ m. value_at m (object_of region head.low)) read.same ∙ ap
    (λ j. value_at before (object_of region j)) first ∙ h.chain.2 in (
      first,
      rw (read_next.same, read.same, next_is) at set,
    )

leaf_root : (region : Region) (q : Request) (x : Node) (free : List ℕ) (before after : List Val) → (x.number ≡ 0 → ⊥) →
    x.red ≡ true → x.key ≡ q.key → x.value ≡ q.value → 0 ≡ x.left → 0 ≡ x.right → IsFree region before free →
    TakesFirstFree region x.number free before after → AddsRoot region Left x q leaf free before after
leaf_root region q x [] before after some red key value left right h t = absurd (some t.0)
leaf_root region q x (i ∷ rest) before after some red key value left right h t =
    let other : (n : ℕ) → 0 < n → value_at after (object_of region n) ≡ value_at before (object_of region n) =
    λ n least. t.1.others (object_of region n) (λ e. omega arith) in
    record {
      near = leaf;
      far = leaf;
      rest = rest;
      grows = record {
        absent = refl;
        items = ap (λ k. (k, x.value) ∷ []) key ∙ ap (λ v. (q.key, v) ∷ []) value;
        counts = λ n. omega (arith, free_count-first n i rest, ap (λ k. one_at k n) t.0);
        height = omega (arith, ap blackness red);
      };
      red = red;
      number = omega arith;
      near_stands = record { root = left; nodes = tt; balanced = tt };
      far_stands = record { root = right; nodes = tt; balanced = tt };
      heights = refl;
      near_black = refl;
      far_black = refl;
      keeps = record {
        root = t.1.others (root_of region) (λ e. omega arith);
        nodes = λ n least most none. other n least;
        chain = record {
          unused = t.1.is;
          chain = IsFreeChain-kept region before after rest (λ n least most some_n. other n least) h.chain.3;
        };
      };
    }

pub leaf-root : (region : Region) (q : Request) (x : Node) (before after : List Val) → (x.number ≡ 0 → ⊥) →
    x.red ≡ true → x.key ≡ q.key → x.value ≡ q.value → 0 ≡ x.left → 0 ≡ x.right → IsTaken region x.number before after →
    PlacesLeaf region q (Root x) before after
leaf-root region q x before after some red key value left right taken free h =
    leaf_root region q x free before after some red key value left right h (taken free h)

-- ---- where the search goes on

pub can-below : {region : Region} (side : Side) {at depth : ℕ} {x : Node} {before mid : List Val} → FitsTree region →
    IsRead region at x before mid → (at ≡ 0 → ⊥) → CanPlace region before at depth →
    CanPlace region mid (child side x) (depth - 1)
unfolding part_of
can-below {region} side {depth} {x} has read some h =
    let r = read_root side has read some h.sub in
    rw read.same (record {
      sub = part_of r;
      free = h.free;
      is_free = h.is_free;
      once = λ i least most. omega (arith, h.once i least most, ap (count_of i) r.tree, on-counts i side);
    })

pub place-below : {region : Region} (q : Request) (side : Side) {at : ℕ} (depth : ℕ) {x : Node} (below placed : Placed)
    {before mid : List Val} (two after : List Val) → FitsTree region → (at ≡ 0 → ⊥) → IsToward side q.key x.key →
    IsRead region at x before mid → Places region q (child side x) (depth - 1) below before two →
    Attaches region side x below placed two after → Places region q at depth placed before after
unfolding part_of
place-below {region} q side depth {x} below placed {before} two after has some way read does attach h =
    let r = read_root side has read some h.sub in
    let once : (i : ℕ) → 0 < i → i ≤ region.nodes → count_of i (sided side x r.near r.far) + free_count i h.free ≤ 1 =
    λ i least most. omega (arith, h.once i least most, ap (count_of i) r.tree) in
    rw r.tree (attach q r.near r.far h.free before
    (record { fork = r.fork; low = h.sub.low; high = h.sub.high; order = r.order; once = once }) way (does (record {
      sub = part_of r;
      free = h.free;
      is_free = h.is_free;
      once = λ i least most. omega (arith, once i least most, on-counts i side);
    })))

-- ---- a key that is there

pub place-replaced : {region : Region} (q : Request) {at : ℕ} (depth : ℕ) {x : Node} {before mid after : List Val} →
    FitsTree region → (at ≡ 0 → ⊥) → q.key ≡ x.key → q.replaces ≡ true → IsRead region at x before mid →
    Sets (object_of region x.number) (val_of (record x { value = q.value })) before after →
    Places region q at depth Found before after
place-replaced {region} q depth {x} {before} {after} has some same replace read set h =
    let r = read_root Left has read some h.sub in
    let y = record x { value = q.value } in
    let changes = wrote region x.number (val_of y) before after r.fork.number set in
    let once : (i : ℕ) → 0 < i → i ≤ region.nodes →
    one_at x.number i + count_of i r.near + count_of i r.far + free_count i h.free ≤ 1 =
    λ i least most. omega (arith, h.once i least most, ap (count_of i) r.tree) in
    let within : (i : ℕ) → one_at x.number i ≤ count_of i (sided Left x r.near r.far) = λ i. omega arith in
    rw r.tree (record {
      tree = sided Left y r.near r.far;
      present = rw (value_of-root Left q.key h.sub.low h.sub.high x r.near r.far r.order same) refl;
      items = rw replace (sym (with_item-here q.key q.value h.sub.low x r.near r.far r.order.0 same));
      counts = λ i. refl;
      height = refl;
      colour = refl;
      stands = written Left y r.fork.number r.fork.within set r.fork.near_stands r.fork.far_stands
          (λ i least most. omega (arith, once i least most)) r.fork.heights r.fork.colours;
      keeps = record {
        root = changes.root;
        nodes = λ i least most none. changes.nodes i least most (omega (arith, within i));
        chain = IsFree-kept changes (λ i least most some. omega (arith, once i least most)) h.is_free;
      };
    })

pub place-found : {region : Region} (q : Request) {at : ℕ} (depth : ℕ) {x : Node} {before mid : List Val} →
    FitsTree region → (at ≡ 0 → ⊥) → q.key ≡ x.key → q.replaces ≡ false → IsRead region at x before mid →
    Places region q at depth Found before mid
place-found {region} q depth {x} {before} has some same keep read h =
    let r = read_root Left has read some h.sub in
    rw (read.same, r.tree) (record {
      tree = sided Left x r.near r.far;
      present = rw (value_of-root Left q.key h.sub.low h.sub.high x r.near r.far r.order same) refl;
      items = rw keep refl;
      counts = λ i. refl;
      height = refl;
      colour = refl;
      stands = stand region before Left x r.near r.far r.fork;
      keeps = record { root = refl; nodes = λ i least most none. refl; chain = h.is_free };
    })
