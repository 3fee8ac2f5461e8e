-- The opening values stand for the opening store.
use Rattle.std.proofs.Common.{◌≡◌, ℕ, zero, suc, ◌+◌, ◌<◌, ◌≤◌, List, [], ◌∷◌, ◌++◌, map, replicate, length, arith}
use Rattle.std.proofs.Common.{refl, sym, ◌∙◌, ap, inl, inr}
use Rattle.std.specs.List.{range_with_len}
use Rattle.std.proofs.lemmas.Bool.{cases_eq}
use Rattle.std.proofs.lemmas.List.{length-replicate, length-append, get_or-replicate, get_or_append_left}
use Rattle.std.proofs.lemmas.List.{get_or-append-add, append_assoc}
use Rattle.std.proofs.lemmas.List.FromFn.{length-map-range_with_len, get_or-map-range_with_len, map-range_with_len_more}
use Rattle.std.proofs.lemmas.List.Folds.{sum_by-replicate}
use Rattle.dstm_model.specs.declared.value.Val.{Val}
use Rattle.dstm_model.specs.declared.layout.Layout.{Layout}
use Rattle.dstm_model.specs.declared.layout.TheConstants.{KEY_LIMIT}
use Rattle.dstm_model.specs.Map.{value_at, no_value}
use Rattle.dstm_model.specs.Store.{opening_store}
use Rattle.dstm_model.specs.Objects.{objects_of, structure_objects, list_begin, tree_begin, free_object}
use Rattle.dstm_model.specs.Objects.{node_object, IsBank, plain}
use Rattle.dstm_model.proofs.Objects.{structure_objects-declared}
use Rattle.dstm_region.specs.Region.{list_region, tree_region}
use Rattle.dstm_list.proofs.Lists.{IsOpening}
use Rattle.dstm_list.proofs.Layouts.{list-opening}
use Rattle.dstm_tree.proofs.Opening.{next_of, next-last, next-more, HasItems-opening}
use Rattle.dstm_store.specs.Whole.{StandsFor}
use Rattle.dstm_store.specs.Opening.{opening_structure, opening_values}

-- ---- the free nodes so far

-- the head, and the objects that name the nodes up to n
abbrev pub names_to : ℕ → List Val
names_to n = plain 0 ∷ map plain (range_with_len 1 n)

pub names_to-more : (before : List Val) (n : ℕ) →
    (before ++ names_to n) ++ plain (n + 1) ∷ [] ≡ before ++ names_to (n + 1)
names_to-more before n =
    append_assoc before (names_to n) (plain (n + 1) ∷ [])
    ∙ ap (λ vs. before ++ plain 0 ∷ vs) (sym (map-range_with_len_more plain 1 n (n + 1) (omega arith)))

pub opening_structure-some : (n : ℕ) → 0 < n → opening_structure n ≡ names_to n ++ plain 0 ∷ []
opening_structure-some zero some = absurd (omega (arith, some))
opening_structure-some (suc n) some = refl

-- ---- the values of a structure

length-opening_structure : (n : ℕ) → length (opening_structure n) ≡ structure_objects n
length-opening_structure zero = refl
length-opening_structure (suc n) =
    let names = length-map-range_with_len plain 1 (suc n) in
    let all = length-append (map plain (range_with_len 1 (suc n))) (plain 0 ∷ []) in
    omega (arith, names, all, structure_objects-declared (suc n) (omega arith))

head-opening_structure : (n : ℕ) → value_at (opening_structure n) 0 ≡ plain 0
head-opening_structure zero = refl
head-opening_structure (suc n) = refl

-- the object of node i, or the head of the free chain, names what follows
named : (n i : ℕ) → 0 < n → i ≤ n → value_at (opening_structure n) (suc i) ≡ plain (next_of n i)
named zero i some within = absurd (omega (arith, some))
named (suc n) i some within =
    let names = map plain (range_with_len 1 (suc n)) in
    let count = length-map-range_with_len plain 1 (suc n) in
    elim (cases_eq i (suc n)) [
      | inl last ↦
          let at : i ≡ length names + 0 = omega (arith, last, count) in
          ap (value_at (names ++ plain 0 ∷ [])) at
          ∙ get_or-append-add names (plain 0 ∷ []) 0 no_value
          ∙ ap plain (sym (next-last (suc n) i last))
      | inr other ↦
          let in_names : i < length names = omega (arith, other, within, count) in
          let next : 1 + i ≡ i + 1 = omega arith in
          get_or_append_left names (plain 0 ∷ []) no_value i in_names
          ∙ get_or-map-range_with_len plain 1 (suc n) i (i + 1) no_value (omega (arith, in_names, count)) next
          ∙ ap plain (sym (next-more (suc n) i other))
    ]

-- ---- the values of a layout

abbrev front_of : Layout → List Val
front_of layout = replicate layout.accounts (plain layout.opening) ++ opening_structure layout.list

length-front : (layout : Layout) → length (front_of layout) ≡ tree_begin layout
length-front layout =
    let bank = length-replicate layout.accounts (plain layout.opening) in
    let both = length-append (replicate layout.accounts (plain layout.opening)) (opening_structure layout.list) in
    omega (arith, bank, both, length-opening_structure layout.list)

length-opening_values : (layout : Layout) → length (opening_values layout) ≡ objects_of layout
length-opening_values layout =
    omega (
      arith,
      length-append (front_of layout) (opening_structure layout.tree),
      length-front layout,
      length-opening_structure layout.tree,
    )

at_bank : (layout : Layout) (a : ℕ) → a < layout.accounts → value_at (opening_values layout) a ≡ plain layout.opening
at_bank layout a within =
    let accounts = replicate layout.accounts (plain layout.opening) in
    let size = length-replicate layout.accounts (plain layout.opening) in
    let in_bank : a < length accounts = omega (arith, within, size) in
    let in_front : a < length (front_of layout) =
    omega (arith, in_bank, length-append accounts (opening_structure layout.list)) in
    get_or_append_left (front_of layout) (opening_structure layout.tree) no_value a in_front
    ∙ get_or_append_left accounts (opening_structure layout.list) no_value a in_bank
    ∙ get_or-replicate layout.accounts a (plain layout.opening) no_value within

at_list : (layout : Layout) (k o : ℕ) → k < structure_objects layout.list → o ≡ list_begin layout + k →
    value_at (opening_values layout) o ≡ value_at (opening_structure layout.list) k
at_list layout k o within object =
    let accounts = replicate layout.accounts (plain layout.opening) in
    let size = length-replicate layout.accounts (plain layout.opening) in
    let in_front : o < length (front_of layout) = omega (arith, object, within, length-front layout) in
    let at : o ≡ length accounts + k = omega (arith, object, size) in
    get_or_append_left (front_of layout) (opening_structure layout.tree) no_value o in_front
    ∙ ap (value_at (front_of layout)) at
    ∙ get_or-append-add accounts (opening_structure layout.list) k no_value

at_tree : (layout : Layout) (k o : ℕ) → o ≡ tree_begin layout + k →
    value_at (opening_values layout) o ≡ value_at (opening_structure layout.tree) k
at_tree layout k o object =
    let at : o ≡ length (front_of layout) + k = omega (arith, object, length-front layout) in
    ap (value_at (opening_values layout)) at
    ∙ get_or-append-add (front_of layout) (opening_structure layout.tree) k no_value

bank : (layout : Layout) → IsBank layout (opening_values layout) (opening_store layout)
bank layout = record {
  accounts = length-replicate layout.accounts layout.opening;
  values = λ a within. at_bank layout a within
      ∙ ap plain (sym (get_or-replicate layout.accounts a layout.opening 0 within));
  total = sum_by-replicate (λ n. n) layout.accounts layout.opening;
}

list_node : (layout : Layout) (i : ℕ) → 0 < layout.list → i ≤ layout.list →
    value_at (opening_values layout) (node_object (list_begin layout) i) ≡ plain (next_of layout.list i)
list_node layout i some within =
    at_list layout (suc i) (node_object (list_begin layout) i)
    (omega (arith, within, structure_objects-declared layout.list some)) (omega arith)
    ∙ named layout.list i some within

list : (layout : Layout) → 0 < layout.list → IsOpening (list_region layout) (opening_values layout)
list layout some = record {
  head = at_list layout 0 (list_begin layout) (omega (arith, structure_objects-declared layout.list some))
      (omega arith)
      ∙ head-opening_structure layout.list;
  free =
      let object : free_object (list_begin layout) ≡ node_object (list_begin layout) 0 = omega arith in
      ap (value_at (opening_values layout)) object ∙ list_node layout 0 some (omega arith)
      ∙ ap plain (next-more layout.list 0 (λ e. omega (arith, e, some)));
  nodes = λ i _ below. list_node layout i some (omega (arith, below))
      ∙ ap plain (next-more layout.list i (λ e. omega (arith, e, below)));
  last = list_node layout layout.list some (omega arith) ∙ ap plain (next-last layout.list layout.list refl);
}

tree_node : (layout : Layout) (i : ℕ) → 0 < layout.tree → i ≤ layout.tree →
    value_at (opening_values layout) (node_object (tree_begin layout) i) ≡ plain (next_of layout.tree i)
tree_node layout i some within =
    at_tree layout (suc i) (node_object (tree_begin layout) i) (omega arith) ∙ named layout.tree i some within

pub stands-opening : (layout : Layout) → StandsFor layout (opening_values layout) (opening_store layout)
stands-opening layout = record {
  objects = length-opening_values layout;
  laid_out = refl;
  bank = bank layout;
  list = list-opening layout (opening_values layout) (list layout);
  tree = λ some.
      let free : free_object (tree_begin layout) ≡ node_object (tree_begin layout) 0 = omega arith in
      record {
        holds = HasItems-opening KEY_LIMIT (tree_region layout) (opening_values layout)
            (at_tree layout 0 (tree_begin layout) (omega arith) ∙ head-opening_structure layout.tree)
            (ap (value_at (opening_values layout)) free ∙ tree_node layout 0 some (omega arith))
            (λ i _ most. tree_node layout i some most);
        capacity = refl;
      };
  no_tree = λ _. refl;
}
