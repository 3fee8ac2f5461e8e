-- A key is placed in the whole tree.
use Rattle.dstm_tree.proofs.Base.{◌≡◌, ℕ, ◌+◌, ◌<◌, ◌≤◌, Bool, true, false, List, [], ◌∷◌, length, arith, refl, sym}
use Rattle.dstm_tree.proofs.Base.{◌∙◌, ap, eq-eqb, if◌then◌else◌, None, IsSome, Ordering, Less, Equal, Greater, nat_cmp}
use Rattle.dstm_tree.proofs.Base.{match_ordering, is_eq, ne_eqb, Val, Region, value_at, plain}
use Rattle.dstm_tree.proofs.Base.{value_of, with_item, Node, Left, Placed, Full, Found, Added, Root, Pair, Request}
use Rattle.dstm_tree.proofs.Base.{Tree, number_of, is_red, items_of, count_of, root_of, free_of, object_of, HasItems}
use Rattle.dstm_tree.proofs.Base.{Stands, with_red, sided, val_of, Sets, ReadsRoot, free_count, IsFree, CanPlace}
use Rattle.dstm_tree.proofs.Base.{IsPlaced, Places, Answers, Placing, placing, Grows, one_at}
use Rattle.dstm_model.specs.declared.reply.Reply.TheVariants as reply
use Rattle.dstm_tree.proofs.Forks.{not_red, written}
use Rattle.dstm_tree.proofs.Sizes.{size_all}
use Rattle.dstm_tree.proofs.Search.{all_of}
use Rattle.dstm_tree.proofs.Kept.{Holds-kept, IsFree-kept, IsFreeChain-kept, wrote}
use Rattle.dstm_tree.proofs.Items.{missed, missed_too, Ascends, ascends, ordered, ascends-with}

-- ---- the answer

grown : (o : Ordering) (k v : ℕ) (e : ℕ × ℕ) (es more : List (ℕ × ℕ)) → is_eq o ≡ false → length more ≡ length es + 1 →
    length (match_ordering o ((k, v) ∷ e ∷ es) ((e.0, v) ∷ es) (e ∷ more)) ≡ length es + 2
grown Less k v e es more other longer = omega arith
grown Equal k v e es more other longer = absurd (cc other)
grown Greater k v e es more other longer = omega arith

-- an absent key makes the items one more
length-with_item : (key value : ℕ) (es : List (ℕ × ℕ)) → value_of key es ≡ None →
    length (with_item key value es) ≡ length es + 1
length-with_item key value [] absent = refl
length-with_item key value (e ∷ es) absent =
    let other = missed (is_eq (nat_cmp key e.0)) e.1 (value_of key es) absent in
    let absent_too = missed_too (is_eq (nat_cmp key e.0)) e.1 (value_of key es) absent in
    omega (
      arith,
      grown (nat_cmp key e.0) key value e es (with_item key value es) other (length-with_item key value es absent_too),
    )

-- ---- the map after

ascends-if : (b : Bool) (limit key value : ℕ) (es : List (ℕ × ℕ)) → key < limit → Ascends 0 limit es →
    Ascends 0 limit (if b then with_item key value es else es)
ascends-if true limit key value es below h = ascends-with 0 limit key value es (omega arith) below h
ascends-if false limit key value es below h = h

-- the reply to a request and the items after it
abbrev left_by : Request → Region → List (ℕ × ℕ) → Placing
left_by q region items = placing q.replaces region.nodes q.key q.value items

-- a tree with the items, the nodes and the chain of one that the key was added to is the tree after
grown_tree : {limit : ℕ} (region : Region) (q : Request) (before after : List Val) (items : List (ℕ × ℕ))
    (t : HasItems limit region before items) {u v : Tree} {rest : List ℕ} → q.key < limit →
    Grows q t.tree t.free v rest → items_of u ≡ items_of v → ((i : ℕ) → count_of i u ≡ count_of i v) →
    is_red u ≡ false → value_at after (root_of region) ≡ plain (number_of u) →
    Stands region after (number_of u) u → IsFree region after rest →
    (reply.Yes ≡ (left_by q region items).reply) × HasItems limit region after (left_by q region items).items
grown_tree {limit} region q before after all t {u} {v} {rest} below grows same_items same_counts black root stands
    chain =
    let once : (i : ℕ) → 0 < i → i ≤ region.nodes → count_of i u + free_count i rest ≡ 1 =
    λ i least most. omega (arith, same_counts i, grows.counts i, t.once i least most) in
    let items = same_items ∙ grows.items in
    let absent = ap (value_of q.key) t.items ∙ grows.absent in
    let size = size_all region after u rest stands.nodes chain.chain once in
    let longer = ap length items ∙ length-with_item q.key q.value (items_of t.tree) grows.absent in
    let room = ne_eqb (length all) region.nodes (λ full. omega (arith, ap length t.items)) in
    rw (absent, room) (
      refl,
      record {
        tree = u;
        free = rest;
        root = root;
        unused = chain.unused;
        nodes = stands.nodes;
        chain = chain.chain;
        once = once;
        red_black = record {
          order = ordered 0 limit u (rw items (ascends-with 0 limit q.key q.value _ (omega arith) below
              (ascends 0 limit t.tree t.red_black.order)));
          black = black;
          balanced = stands.balanced;
        };
        items = ap (with_item q.key q.value) t.items ∙ sym items;
      },
    )

-- ---- the root was read, and the key placed below it

-- a key can be placed in the whole tree
unfoldable can_place : {limit : ℕ} {region : Region} {map : List Val} {items : List (ℕ × ℕ)}
    (t : HasItems limit region map items) → CanPlace region map (number_of t.tree) region.nodes
unfolding all_of
can_place t = record {
  sub = all_of t;
  free = t.free;
  is_free = record { unused = t.unused; chain = t.chain };
  once = λ i least most. omega (arith, t.once i least most);
}

pub can-root : {limit : ℕ} {region : Region} {root : ℕ} {before mid : List Val} (items : List (ℕ × ℕ)) →
    HasItems limit region before items → ReadsRoot region root before mid → CanPlace region mid root region.nodes
can-root {limit} items t read = rw (read.same, ← read.is limit items t) (can_place t)

placed_at_root : {limit : ℕ} {region : Region} (q : Request) {root : ℕ} (placed : Placed) {before mid : List Val}
    (after : List Val) (items : List (ℕ × ℕ)) (t : HasItems limit region before items) →
    ReadsRoot region root before mid → Places region q root region.nodes placed mid after →
    IsPlaced region placed q t.tree t.free before after
unfolding can_place all_of
placed_at_root {limit} q placed after items t read does =
    (rw (read.same, ← read.is limit items t) at does) (can_place t)

pub answers-full : {region : Region} (q : Request) {root : ℕ} {before mid after : List Val} →
    ReadsRoot region root before mid → Places region q root region.nodes Full mid after →
    Answers region q reply.Full before after
answers-full {region} q {before} {after} read does limit items below t =
    let h = placed_at_root q Full after items t read does in
    let size = size_all region before t.tree t.free t.nodes t.chain t.once in
    let absent = ap (value_of q.key) t.items ∙ h.absent in
    let full = eq-eqb (length items) region.nodes (omega (arith, ap length t.items, ap length h.none)) in
    rw (absent, full) (refl, rw h.same t)

pub answers-found : {region : Region} (q : Request) {root : ℕ} {before mid after : List Val} →
    ReadsRoot region root before mid → Places region q root region.nodes Found mid after →
    Answers region q reply.No before after
answers-found q {after} read does limit items below t =
    let h = placed_at_root q Found after items t read does in
    let with = with_item q.key q.value in
    let present : IsSome (value_of q.key items) = rw t.items h.present in
    rw present (
      refl,
      record {
        tree = h.tree;
        free = t.free;
        root = h.keeps.root ∙ t.root ∙ ap plain (sym h.stands.root);
        unused = h.keeps.chain.unused;
        nodes = h.stands.nodes;
        chain = h.keeps.chain.chain;
        once = λ i least most. omega (arith, t.once i least most, h.counts i);
        red_black = record {
          order = ordered 0 limit h.tree (rw h.items
              (ascends-if q.replaces limit q.key q.value _ below (ascends 0 limit t.tree t.red_black.order)));
          black = h.colour ∙ t.red_black.black;
          balanced = h.stands.balanced;
        };
        items = ap (λ xs. if q.replaces then with xs else xs) t.items ∙ sym h.items;
      },
    )

pub answers-added : {region : Region} (q : Request) {root : ℕ} {before mid after : List Val} →
    ReadsRoot region root before mid → Places region q root region.nodes Added mid after →
    Answers region q reply.Yes before after
answers-added {region} q {before} {after} read does limit items below t =
    let h = placed_at_root q Added after items t read does in
    grown_tree region q before after items t below h.grows refl (λ i. refl)
    (not_red h.tree t.tree h.colour t.red_black.black) (h.keeps.root ∙ t.root ∙ ap plain (sym h.stands.root))
    (record { root = refl; nodes = h.stands.nodes; balanced = h.stands.balanced }) h.keeps.chain

-- a new root, which is made black
pub answers-root : {region : Region} (q : Request) {root : ℕ} (x : Node) {before mid two one after : List Val} →
    x.number ≤ region.nodes → ReadsRoot region root before mid →
    Places region q root region.nodes (Root x) mid two →
    Sets (object_of region x.number) (val_of (with_red false x)) two one →
    Sets (root_of region) (plain x.number) one after → Answers region q reply.Yes before after
answers-root {region} q x {before} {two} {one} {after} in_x read does set_x set_root limit items below t =
    let h = placed_at_root q (Root x) two items t read does in
    let x' = with_red false x in
    let u = sided Left x' h.near h.far in
    let once : (i : ℕ) → 0 < i → i ≤ region.nodes →
    one_at x.number i + count_of i h.near + count_of i h.far + free_count i h.rest ≤ 1 =
    λ i least most. omega (arith, h.grows.counts i, t.once i least most) in
    let still : (i : ℕ) → value_at after (object_of region i) ≡ value_at one (object_of region i) =
    λ i. set_root.others (object_of region i) (λ e. omega arith) in
    let stands = written Left x' h.number in_x set_x h.near_stands h.far_stands
    (λ i least most. omega (arith, once i least most)) h.heights (λ e. absurd (cc e)) in
    let chain = IsFree-kept (wrote region x.number (val_of x') two one h.number set_x)
    (λ i least most some. omega (arith, once i least most)) h.keeps.chain in
    grown_tree region q before after items t {u = u} below h.grows refl (λ i. refl) refl set_root.is (record {
      root = refl;
      nodes = Holds-kept region one after u (λ i least most some. still i) stands.nodes;
      balanced = stands.balanced;
    }) (record {
      unused = set_root.others (free_of region) (λ e. omega arith) ∙ chain.unused;
      chain = IsFreeChain-kept region one after h.rest (λ i least most some. still i) chain.chain;
    })

-- at a black root there are no two red nodes one over the other
pub no-pair : {limit : ℕ} {region : Region} (q : Request) {root : ℕ} {placed : Placed} (x y : Node)
    {before mid : List Val} (after : List Val) (items : List (ℕ × ℕ)) → HasItems limit region before items → placed ≡ Pair x y →
    ReadsRoot region root before mid → Places region q root region.nodes placed mid after → ⊥
no-pair q x y after items t is read does =
    cc ((placed_at_root q (Pair x y) after items t read (rw is at does)).was_red, t.red_black.black)
