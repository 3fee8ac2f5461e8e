-- What the list's operations do to maps that stand for a list. No memory stands in these lemmas.
use Rattle.std.proofs.Common.{◌≡◌, ◌≢◌, ℕ, ◌+◌, ◌<◌, ◌≤◌, List, [], ◌∷◌, ◌++◌, length, slice_set, Bool, true, false}
use Rattle.std.proofs.Common.{◌==◌, arith, refl, sym, ◌∙◌, ap, subst}
use Rattle.std.specs.Prelude.{Option, Some, None, is_some, IsPermutation}
use Rattle.std.specs.List.{AllByRecursion as Each}
use Rattle.std.specs.List.Sorted.{IsStrictlyIncreasing}
use Rattle.std.proofs.lemmas.Bool.{ne_eqb, eq-eqb}
use Rattle.std.proofs.lemmas.List.{length-map, length-append}
use Rattle.std.proofs.lemmas.List.Sorted.{IsPermutation-sym, IsPermutation-trans}
use Rattle.dstm_model.specs.declared.value.Val.{Val}
use Rattle.dstm_model.specs.declared.reply.Reply.TheVariants.{Yes, No, Full}
use Rattle.dstm_model.specs.Map.{value_at}
use Rattle.dstm_model.specs.Store.{has_key, with_key, without_key, yes_or_no}
use Rattle.dstm_model.specs.Objects.{free_object, node_object, plain}
use Rattle.dstm_region.specs.declared.region.Region.{Region}
use Rattle.dstm_region.specs.Region.{IsInside, size_of}
use Rattle.dstm_list.specs.declared.node.Node.{Node}
use Rattle.dstm_list.specs.declared.walk.Place.{Place}
use Rattle.dstm_list.specs.List.{Cell, FitsList, HasKeys, IsChain, IsFreeChain, numbers_of, keys_of, first_of, node}
use Rattle.dstm_list.specs.List.{next_of, nodes_to}
use Rattle.dstm_list.specs.Edits.{Adds, TakesOut, Tells}
use Rattle.dstm_list.specs.Place.{Finds, IsPlace, IsFirst, AllLess, AllGreater, link_after, key_after}
use Rattle.dstm_list.proofs.Keys.{Rise, increasing-of_Rise, Rise-insert, Rise-remove, has_key-behind, has_key-greater}
use Rattle.dstm_list.proofs.Keys.{has_key-first, with_key-between, without_key-first, without_key-absent}
use Rattle.dstm_list.proofs.Numbers.{IsNumber, as_many, split-used, split-free, within, each-right}
use Rattle.dstm_list.proofs.Objects.{Apart, Changed-of_sets, Kept-of_same, objects_apart, relinked, IsChain-same}
use Rattle.dstm_list.proofs.Objects.{IsFreeChain-same}
use Rattle.dstm_list.proofs.Steps.{IsChain-right, rise_of, used_within, first_within, node-of_list}

-- ---- whether the key is there

has_key-at : (key : ℕ) (found : Option Node) (behind ahead : List Cell) → AllLess key behind →
    IsFirst key found ahead → has_key key (keys_of (behind ++ ahead)) ≡ is_some found
has_key-at key None behind ahead less here = has_key-behind key behind ahead less ∙ has_key-greater key ahead here
has_key-at key (Some found) behind [] less here = absurd here
has_key-at key (Some found) behind (c ∷ cs) less here =
    has_key-behind key behind (c ∷ cs) less ∙ has_key-first key c cs here.0

pub has_key-found : {region : Region} {values : List Val} {held : List ℕ} {key : ℕ} {place : Place}
    (list : HasKeys region values held) → IsPlace region.first key place list.cells →
    has_key key held ≡ is_some place.node
has_key-found {key = key} {place = place} list found =
    let stands = found.stands in
    ap (has_key key) (list.keys ∙ ap keys_of stands.split)
    ∙ has_key-at key place.node stands.behind stands.ahead stands.lesser found.here

pub does-member : {region : Region} {values : List Val} (key : ℕ) (place : Place) (b : Bool) →
    Finds region values key place → is_some place.node ≡ b →
    Tells region key (yes_or_no b) values values
does-member key place b finds is held list = (ap yes_or_no (sym (has_key-found list (finds held list) ∙ is)), list)

-- ---- a key that is there is not inserted, and one that is absent is not removed

pub does-no_insert : {region : Region} {values : List Val} (key : ℕ) (place : Place) →
    Finds region values key place → is_some place.node ≡ true →
    Adds region key No values values
does-no_insert key place finds is held list =
    let has : has_key key held ≡ true = has_key-found list (finds held list) ∙ is in
    rw has (refl, list)

pub does-no_remove : {region : Region} {values : List Val} (key : ℕ) (place : Place) →
    Finds region values key place → place.node ≡ None → TakesOut region key No values values
does-no_remove {region} {values} key place finds is held list =
    let found = finds held list in
    let stands = found.stands in
    let has : has_key key held ≡ false = has_key-found list found ∙ ap is_some is in
    let greater : AllGreater key stands.ahead = subst (λ o. IsFirst key o stands.ahead) is found.here in
    let keys = list.keys ∙ ap keys_of stands.split in
    let kept : without_key key held ≡ held =
    ap (without_key key) keys ∙ without_key-absent key stands.behind stands.ahead stands.lesser greater
    ∙ sym keys in (
      ap yes_or_no (sym has),
      subst (λ (ks : List ℕ). HasKeys region values ks) (sym kept) list,
    )

-- ---- the parts of a list

-- a list whose chains are these
pub record Parts (region : Region) (values : List Val) (held : List ℕ) (cells : List Cell)
    (free : List ℕ) : Type 0 where
  pub keys : held ≡ keys_of cells
  pub rise : Rise 0 cells
  pub head : value_at values region.first ≡ node 0 (first_of (numbers_of cells))
  pub chain : IsChain region.first values cells
  pub free_head : value_at values (free_object region.first) ≡ plain (first_of free)
  pub free_chain : IsFreeChain region.first values free
  pub once : IsPermutation (nodes_to region.nodes) (numbers_of cells ++ free)

node-zero : (n : ℕ) → node 0 n ≡ plain n
node-zero n = ap plain (omega arith)

parts_of : {region : Region} {values : List Val} {held : List ℕ} → 0 < region.nodes →
    (list : HasKeys region values held) → Parts region values held list.cells list.free
parts_of declared list = record {
  keys = list.keys;
  rise = rise_of list;
  head = list.head declared ∙ sym (node-zero (first_of (numbers_of list.cells)));
  chain = list.chain;
  free_head = list.free_head declared;
  free_chain = list.free_chain;
  once = IsPermutation-sym _ _ list.once;
}

list_of : {region : Region} {values : List Val} {held : List ℕ} {cells : List Cell} {free : List ℕ} →
    Parts region values held cells free → HasKeys region values held
list_of {cells = cells} {free = free} parts = record {
  cells = cells;
  free = free;
  keys = parts.keys;
  rising = subst IsStrictlyIncreasing (sym parts.keys) (increasing-of_Rise 0 cells parts.rise);
  head = λ _. parts.head ∙ node-zero (first_of (numbers_of cells));
  chain = parts.chain;
  free_head = λ _. parts.free_head;
  free_chain = parts.free_chain;
  once = IsPermutation-sym _ _ parts.once;
}

-- the keys are as many as the nodes that are not free
used-free : {region : Region} {values : List Val} {held : List ℕ} {cells : List Cell} {free : List ℕ} →
    Parts region values held cells free → length held + length free ≡ region.nodes
used-free {region} {held = held} {cells = cells} {free = free} parts =
    let all = as_many region.nodes (numbers_of cells ++ free) parts.once in
    let used = length-append (numbers_of cells) free in
    let numbers = length-map cells (λ (c : Cell). c.number) in
    let keys = ap length parts.keys ∙ length-map cells (λ (c : Cell). c.key) in
    omega (arith, all, used, numbers, keys)

-- the number in the head of the free chain is that of the first free node
pub first_free : {region : Region} {values : List Val} {held : List ℕ} (n : ℕ) → FitsList region →
    0 < region.nodes →
    (list : HasKeys region values held) → n ≡ next_of (value_at values (free_object region.first)) →
    (n ≡ first_of list.free) × (n ≤ region.nodes)
first_free {region} n fits declared list is =
    let in_range = each-right (IsNumber region.nodes) (numbers_of list.cells) list.free (used_within list) in
    let small = first_within region.nodes list.free in_range in
    let low = ap (λ v. v.low) (list.free_head declared) in
    (omega (arith, is, low, small, fits.few), omega (arith, is, low, small, fits.few))

pub none_free : (n : ℕ) (free : List ℕ) → Each (IsNumber n) free → first_of free ≡ 0 → length free ≡ 0
none_free n [] each none = refl
none_free n (i ∷ is) each none = absurd (omega (arith, each.0.0, none))

some_free : (n : ℕ) (free : List ℕ) → n ≡ first_of free → n ≢ 0 → (rest : List ℕ) × (free ≡ n ∷ rest)
some_free n [] is some = absurd (some is)
some_free n (i ∷ is) same some = (is, ap (λ j. j ∷ is) (sym same))

pub does-full : {region : Region} {values : List Val} (key n : ℕ) (place : Place) → FitsList region →
    0 < region.nodes → Finds region values key place → is_some place.node ≡ false →
    n ≡ next_of (value_at values (free_object region.first)) → n ≡ 0 →
    Adds region key Full values values
does-full {region} key n place fits declared finds is free none held list =
    let has : has_key key held ≡ false = has_key-found list (finds held list) ∙ is in
    let in_range = each-right (IsNumber region.nodes) (numbers_of list.cells) list.free (used_within list) in
    let no_free = none_free region.nodes list.free in_range (sym (first_free n fits declared list free).0 ∙ none) in
    let all = used-free (parts_of declared list) in
    let full : (length held == region.nodes) ≡ true =
    eq-eqb (length held) region.nodes (omega (arith, all, no_free)) in
    rw (has, full) (refl, list)

-- ---- a key goes in

-- the map with node i linked in, which holds this key and links to `next`, where the link holds the key `last`
abbrev pub with_node : List Val → ℕ → ℕ → ℕ → ℕ → ℕ → ℕ → Val → List Val
with_node values begin i key next link last rest =
    slice_set (slice_set (slice_set values (node_object begin i) (node key next)) (free_object begin) rest) link
    (node last i)

-- the three objects that a change sets, where the list is cut at node i, are the region's and differ
record IsCut (region : Region) (i : ℕ) (behind : List Cell) : Type 0 where
  node_in : IsInside region (node_object region.first i)
  free_in : IsInside region (node_object region.first 0)
  differ : Apart (node_object region.first i) (free_object region.first) (link_after region.first region.first behind)

cut_at : (region : Region) (i : ℕ) (behind ahead : List Cell) (free : List ℕ) → 0 < region.nodes →
    IsPermutation (nodes_to region.nodes) (i ∷ (numbers_of behind ++ (numbers_of ahead ++ free))) → IsCut region i behind
cut_at region i behind ahead free declared once = record {
  node_in = node-of_list region i declared
      (within region.nodes (i ∷ (numbers_of behind ++ (numbers_of ahead ++ free))) once).0.1;
  free_in = node-of_list region 0 declared (omega arith);
  differ = objects_apart region.nodes region.first i behind ahead free once;
}

inserted : {region : Region} {values : List Val} {held : List ℕ} (c : Cell) (behind ahead : List Cell)
    (free : List ℕ) (link : ℕ) (rest : Val) → 0 < region.nodes → region.first + size_of region ≤ length values →
    Parts region values held (behind ++ ahead) (c.number ∷ free) → AllLess c.key behind → AllGreater c.key ahead →
    link ≡ link_after region.first region.first behind → IsInside region link →
    value_at values (node_object region.first c.number) ≡ rest → Parts region
    (with_node values region.first c.number c.key (first_of (numbers_of ahead)) link (key_after 0 behind) rest)
    (with_key c.key held) (behind ++ c ∷ ahead) free
inserted {region} {values} {held} c behind ahead free link rest declared in_map parts less greater is_link link_in
    had =
    let begin = region.first in
    let i = c.number in
    let once = IsPermutation-trans _ _ _ parts.once (split-free behind ahead i free) in
    let cut = cut_at region i behind ahead free declared once in
    let changed = Changed-of_sets values (node_object begin i) (free_object begin) link
    (node c.key (first_of (numbers_of ahead))) rest (node (key_after 0 behind) i)
    (omega (arith, cut.node_in.1, in_map)) (omega (arith, cut.free_in.1, in_map)) (omega (arith, link_in.1, in_map))
    cut.differ.first_second (λ e. cut.differ.first_third (e ∙ is_link)) (λ e. cut.differ.second_third (e ∙ is_link)) in
    let after = with_node values begin i c.key (first_of (numbers_of ahead)) link (key_after 0 behind) rest in
    let kept = Kept-of_same region.nodes begin i values after behind ahead free once
    (λ p px py pz. changed.same p px py (λ e. pz (e ∙ is_link))) in
    let linked = relinked begin values after behind ahead (c ∷ ahead) begin 0 parts.head parts.chain kept.before
    (ap (value_at after) (sym is_link) ∙ changed.third_is) (
      changed.first_is,
      IsChain-same begin values after ahead kept.ahead_same
          (IsChain-right begin values behind ahead parts.chain),
    ) in
    record {
      keys = ap (with_key c.key) parts.keys ∙ with_key-between c behind ahead less greater;
      rise = Rise-insert 0 c behind ahead (omega arith) less greater parts.rise;
      head = linked.0;
      chain = linked.1;
      free_head = changed.second_is ∙ sym had ∙ parts.free_chain.0;
      free_chain = IsFreeChain-same begin values after free kept.free_same parts.free_chain.1;
      once = IsPermutation-trans _ _ _ once (IsPermutation-sym _ _ (split-used behind c ahead free));
    }

greater_of : (key : ℕ) (found : Option Node) (cells : List Cell) → is_some found ≡ false →
    IsFirst key found cells → AllGreater key cells
greater_of key None cells is here = here
greater_of key (Some found) cells is here = absurd (cc is)

pub does-insert : {region : Region} {values : List Val} (key n : ℕ) (place : Place) (rest : Val) →
    FitsList region → 0 < region.nodes → region.first + size_of region ≤ length values → Finds region values key place →
    is_some place.node ≡ false →
    IsInside region place.link → n ≡ next_of (value_at values (free_object region.first)) → n ≢ 0 →
    value_at values (node_object region.first n) ≡ rest → Adds region key Yes values
    (with_node values region.first n key place.before.next place.link place.before.key rest)
does-insert {region} {values} key n place rest fits declared in_map finds is link_in free some had held list =
    let found = finds held list in
    let stands = found.stands in
    let has : has_key key held ≡ false = has_key-found list found ∙ is in
    let (tail, free_is) = some_free n list.free (first_free n fits declared list free).0 some in
    let c : Cell = record { number = n; key = key } in
    let parts = subst (λ is. Parts region values held (stands.behind ++ stands.ahead) is) free_is
    (subst (λ cs. Parts region values held cs list.free) stands.split (parts_of declared list)) in
    let all = used-free parts in
    let room : (length held == region.nodes) ≡ false =
    ne_eqb (length held) region.nodes (λ e. omega (arith, all, e)) in
    let after = inserted c stands.behind stands.ahead tail place.link rest declared in_map parts stands.lesser
    (greater_of key place.node stands.ahead is found.here) stands.link link_in had in
    rw (has, room, stands.next, stands.last) (refl, list_of after)

-- ---- a key goes out

-- the map with node i put on the free chain, where the link holds the key `last` and links to `next`
abbrev pub without_node : List Val → ℕ → ℕ → ℕ → ℕ → ℕ → Val → List Val
without_node values begin i next link last rest =
    slice_set (slice_set (slice_set values (free_object begin) (node 0 i)) (node_object begin i) rest) link
    (node last next)

removed : {region : Region} {values : List Val} {held : List ℕ} (c : Cell) (behind ahead : List Cell)
    {free : List ℕ} (link : ℕ) (rest : Val) → 0 < region.nodes → region.first + size_of region ≤ length values →
    Parts region values held (behind ++ c ∷ ahead) free → AllLess c.key behind →
    link ≡ link_after region.first region.first behind → IsInside region link →
    value_at values (free_object region.first) ≡ rest → Parts region
    (without_node values region.first c.number (first_of (numbers_of ahead)) link (key_after 0 behind) rest)
    (without_key c.key held) (behind ++ ahead) (c.number ∷ free)
removed {region} {values} {held} c behind ahead {free = free} link rest declared in_map parts less is_link link_in
    had =
    let begin = region.first in
    let i = c.number in
    let once = IsPermutation-trans _ _ _ parts.once (split-used behind c ahead free) in
    let cut = cut_at region i behind ahead free declared once in
    let changed = Changed-of_sets values (free_object begin) (node_object begin i) link
    (node 0 i) rest (node (key_after 0 behind) (first_of (numbers_of ahead)))
    (omega (arith, cut.free_in.1, in_map)) (omega (arith, cut.node_in.1, in_map)) (omega (arith, link_in.1, in_map))
    (λ e. cut.differ.first_second (sym e)) (λ e. cut.differ.second_third (e ∙ is_link))
    (λ e. cut.differ.first_third (e ∙ is_link)) in
    let after = without_node values begin i (first_of (numbers_of ahead)) link (key_after 0 behind) rest in
    let kept = Kept-of_same region.nodes begin i values after behind ahead free once
    (λ p px py pz. changed.same p py px (λ e. pz (e ∙ is_link))) in
    let chain = IsChain-right begin values behind (c ∷ ahead) parts.chain in
    let linked = relinked begin values after behind (c ∷ ahead) ahead begin 0 parts.head parts.chain kept.before
    (ap (value_at after) (sym is_link) ∙ changed.third_is)
    (IsChain-same begin values after ahead kept.ahead_same chain.1) in
    record {
      keys = ap (without_key c.key) parts.keys ∙ without_key-first c behind ahead less;
      rise = Rise-remove 0 c behind ahead parts.rise;
      head = linked.0;
      chain = linked.1;
      free_head = changed.first_is ∙ node-zero i;
      free_chain = (
        changed.second_is ∙ sym had ∙ parts.free_head,
        IsFreeChain-same begin values after free kept.free_same parts.free_chain,
      );
      once = IsPermutation-trans _ _ _ once (IsPermutation-sym _ _ (split-free behind ahead i free));
    }

-- the cell that holds the key
record IsCell (key : ℕ) (next : ℕ) (cells : List Cell) : Type 0 where
  cell : Cell
  rest : List Cell
  cells_are : cells ≡ cell ∷ rest
  key_is : key ≡ cell.key
  next_is : next ≡ first_of (numbers_of rest)

first_cell : (key : ℕ) (found : Node) (cells : List Cell) → IsFirst key (Some found) cells →
    IsCell key found.next cells
first_cell key found [] here = absurd here
first_cell key found (c ∷ cs) here =
    record { cell = c; rest = cs; cells_are = refl; key_is = sym here.0; next_is = here.1 }

pub does-remove : {region : Region} {values : List Val} (key : ℕ) (place : Place) (found : Node) (rest : Val) →
    0 < region.nodes → region.first + size_of region ≤ length values → Finds region values key place →
    place.node ≡ Some found →
    IsInside region place.link → value_at values (free_object region.first) ≡ rest →
    TakesOut region key Yes values
    (without_node values region.first place.before.next found.next place.link place.before.key rest)
does-remove {region} {values} key place found rest declared in_map finds is link_in had held list =
    let at = finds held list in
    let stands = at.stands in
    let has : has_key key held ≡ true = has_key-found list at ∙ ap is_some is in
    let here = first_cell key found stands.ahead (subst (λ o. IsFirst key o stands.ahead) is at.here) in
    let c = here.cell in
    let parts = subst (λ cs. Parts region values held (stands.behind ++ cs) list.free) here.cells_are
    (subst (λ cs. Parts region values held cs list.free) stands.split (parts_of declared list)) in
    let number : place.before.next ≡ c.number = stands.next ∙ ap (λ cs. first_of (numbers_of cs)) here.cells_are in
    let after = removed c stands.behind here.rest place.link rest declared in_map parts
    (subst (λ k. AllLess k stands.behind) here.key_is stands.lesser) stands.link link_in had in
    let begin = region.first in
    let link = place.link in
    let maps : without_node values begin place.before.next found.next link place.before.key rest
    ≡ without_node values begin c.number (first_of (numbers_of here.rest)) link (key_after 0 stands.behind) rest =
    ap (λ i. without_node values begin i found.next link place.before.key rest) number
    ∙ ap (λ next. without_node values begin c.number next link place.before.key rest) here.next_is
    ∙ ap (λ last. without_node values begin c.number (first_of (numbers_of here.rest)) link last rest) stands.last in
    let now = without_node values begin c.number (first_of (numbers_of here.rest)) link
    (key_after 0 stands.behind) rest in
    let still = subst (λ k. HasKeys region now (without_key k held)) (sym here.key_is)
    (list_of after) in (
      ap yes_or_no (sym has),
      subst (λ now. HasKeys region now (without_key key held)) (sym maps) still,
    )
