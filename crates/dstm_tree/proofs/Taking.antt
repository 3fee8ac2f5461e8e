-- A key is taken out of the whole tree.
use Rattle.dstm_tree.proofs.Base.{◌≡◌, ℕ, ◌+◌, ◌<◌, true, List, ◌∷◌, arith, sym, ◌∙◌, ap, Option, None, is_some, Val}
use Rattle.dstm_tree.proofs.Base.{Region, value_at, plain, value_of, without_item, yes_or_no, Removed}
use Rattle.dstm_tree.proofs.Base.{number_of, count_of, root_of, free_of, object_of, HasItems, Subtree, ReadsRoot}
use Rattle.dstm_tree.proofs.Base.{Reads, Sets, TakesKey, TakesKeyIf, RemovesIf, GivesBack, NamesRoot, one_at}
use Rattle.dstm_model.specs.declared.reply.Reply.TheVariants as reply
use Rattle.dstm_tree.proofs.Search.{all_of}
use Rattle.dstm_tree.proofs.Kept.{unmarked, free_count-first, Holds-kept, IsFreeChain-kept}
use Rattle.dstm_tree.proofs.Forks.{not_red}
use Rattle.dstm_tree.proofs.Items.{without_item-absent, ascends, ordered, ascends-without}

pub whole-none : {limit : ℕ} {region : Region} (key : ℕ) {before after : List Val} (items : List (ℕ × ℕ))
    (t : HasItems limit region before items) → TakesKeyIf region key t.tree None before after →
    (reply.No ≡ yes_or_no (is_some (value_of key items))) × HasItems limit region after (without_item key items)
whole-none key items t h =
    let absent = ap (value_of key) t.items ∙ h.0 in
    (ap (λ o. yes_or_no (is_some o)) (sym absent), rw (without_item-absent key items absent, h.1) t)

pub whole-removed : {limit : ℕ} {region : Region} {key root : ℕ} {removed : Removed} {before mid two : List Val}
    (after : List Val) (items : List (ℕ × ℕ)) (t : HasItems limit region before items) → number_of t.tree ≡ root →
    TakesKey region key t.tree removed before mid → GivesBack region removed.number mid two →
    NamesRoot region root removed.cut.root two after → (reply.Yes ≡ yes_or_no (is_some (value_of key items))) ×
    HasItems limit region after (without_item key items)
whole-removed {limit} {region} {key} {removed} {before} {mid} after items t root_is h gives names =
    let b = h.loses.became in
    let u = b.tree in
    let n = removed.number in
    let root_two = gives.others (root_of region) (λ e. omega arith) (λ e. omega arith) ∙ b.keeps.root ∙ t.root ∙ ap
    plain root_is in
    let named = names root_two in
    let other_node : (i : ℕ) → 0 < i → one_at n i ≡ 0 → value_at after (object_of region i) ≡ value_at mid
    (object_of region i) =
    λ i least none. named.others (object_of region i) (λ e. omega arith) ∙ gives.others (object_of region i)
    (λ e. unmarked n i none (omega arith)) (λ e. omega arith) in
    let counts : (i : ℕ) → one_at n i + count_of i u ≡ count_of i t.tree = h.loses.counts in
    let is_tree : HasItems limit region after (without_item key items) = record {
      tree = u;
      free = n ∷ t.free;
      root = named.is ∙ ap plain (sym b.stands.root);
      unused = named.others (free_of region) (λ e. omega arith) ∙ gives.free;
      nodes = Holds-kept region mid after u
          (λ i least most some. other_node i least (omega (arith, counts i, t.once i least most))) b.stands.nodes;
      chain = (
        h.loses.some,
        h.loses.within,
        named.others (object_of region n) (λ e. omega arith) ∙ gives.node ∙ b.keeps.free ∙ t.unused,
        IsFreeChain-kept region before after t.free (λ i least most some. other_node i least
            (omega (arith, counts i, t.once i least most)) ∙ b.keeps.nodes i least most
            (omega (arith, t.once i least most))) t.chain,
      );
      once = λ i least most. omega (arith, free_count-first i n t.free, counts i, t.once i least most);
      red_black = record {
        order = ordered 0 limit u (rw h.items
            (ascends-without 0 limit key _ (ascends 0 limit t.tree t.red_black.order)));
        black = not_red u t.tree b.colour t.red_black.black;
        balanced = b.stands.balanced;
      };
      items = ap (without_item key) t.items ∙ sym h.items;
    } in
    let present : is_some (value_of key items) ≡ true = rw t.items h.present in
    (ap yes_or_no (sym present), is_tree)

-- a node becomes the first free one
pub gives-back : (region : Region) (number : ℕ) (first : Val) {before mid two after : List Val} → 0 < number →
    Reads (free_of region) first before mid → Sets (object_of region number) first mid two →
    Sets (free_of region) (plain number) two after → GivesBack region number before after
gives-back region number first {before} {mid} some read put name = record {
  node = name.others (object_of region number) (λ e. omega arith) ∙ put.is ∙ sym read.is;
  free = name.is;
  others = λ o not_node not_free. name.others o not_free ∙ put.others o not_node ∙ ap (λ m. value_at m o) read.same;
}

-- ---- the root was read, and the key taken out below it

pub part_at_root : {limit : ℕ} {region : Region} {root : ℕ} {before mid : List Val} (items : List (ℕ × ℕ)) →
    HasItems limit region before items → ReadsRoot region root before mid → Subtree region mid root region.nodes
part_at_root {limit} items t read = rw (read.same, ← read.is limit items t) (all_of t)

pub removed_at_root : {limit : ℕ} {region : Region} (key : ℕ) {root : ℕ} {found : Option Removed} (is : Option Removed)
    {before mid : List Val} (after : List Val) (items : List (ℕ × ℕ)) (t : HasItems limit region before items) →
    found ≡ is → ReadsRoot region root before mid → RemovesIf region key root region.nodes found mid after →
    TakesKeyIf region key t.tree is before after
unfolding all_of
removed_at_root {limit} key is after items t found_is read does =
    (rw (read.same, ← read.is limit items t, found_is) at does) (all_of t)
