-- Why the reads that a walk keeps are enough.
--
-- A walk that has let everything go but its last two nodes knows nothing of the nodes before them: in another map
-- that has the values of the reads that are kept, other nodes may stand there. What it has to know is that the last
-- node is in the list of that map, too, with lesser keys before it. Two facts show it.
--
-- A node that holds a key above 0 is in the list: a node that is not is free, and a free node holds the number of
-- the next free one alone, which is below 2,048, so that what it holds as a key is 0. So the value of such a node
-- shows by itself that it is in the list, in every map that stands for one.
--
-- A node of the list that holds the key 0 is the first one, since keys rise. What it holds may be what a free node
-- holds; but while the first node is one of the last two the head is kept, and the head names it.
--
-- Since keys rise, the keys before a node of the list are less than the node's own, and the walk went on because
-- that one is less than the key it looks for. So nothing before the node needs to be known.
use Rattle.std.proofs.Common.{◌≡◌, ℕ, zero, suc, ◌+◌, ◌*◌, ◌<◌, ◌≤◌, List, [], ◌∷◌, ◌++◌, length, arith, refl, sym}
use Rattle.std.proofs.Common.{◌∙◌, ap}
use Rattle.std.proofs.Common.{subst, inl, inr, append_assoc}
use Rattle.std.specs.Prelude.{◌⊎◌, Contains, slice_index_or}
use Rattle.std.specs.List.{AllByRecursion as Each}
use Rattle.std.proofs.lemmas.Bool.{cases_eq}
use Rattle.std.proofs.lemmas.List.{map-append}
use Rattle.std.proofs.lemmas.List.Elements.{All-contains, All-from_recursion, Contains-append_cases}
use Rattle.std.proofs.lemmas.List.Elements.{Contains-append_right}
use Rattle.std.proofs.lemmas.List.Sorted.{Contains-permutation, IsPermutation-sym}
use Rattle.dstm_model.specs.declared.value.Val.{Val}
use Rattle.dstm_model.specs.Map.{value_at}
use Rattle.dstm_model.specs.Objects.{node_object}
use Rattle.dstm_region.specs.declared.region.Region.{Region}
use Rattle.dstm_list.specs.declared.node.Node.{Node}
use Rattle.dstm_list.specs.List.{Cell, FitsList, HasKeys, IsChain, IsFreeChain}
use Rattle.dstm_list.specs.List.{numbers_of, first_of, key_of, next_of, nodes_to}
use Rattle.dstm_list.specs.Place.{Stands, AllLess}
use Rattle.dstm_list.proofs.Keys.{Rise}
use Rattle.dstm_list.proofs.Numbers.{IsNumber, each-left, each-right}
use Rattle.dstm_list.proofs.Steps.{IsChain-right, rise_of, used_within, first_within, link_after-push, key_after-push}

-- ---- a node with a key above 0 is not free

-- what a free node holds as a key is 0
free_keys : (n begin : ℕ) (values : List Val) (free : List ℕ) → n < 2048 → Each (IsNumber n) free →
    IsFreeChain begin values free → Each (λ i. key_of (value_at values (node_object begin i)) ≡ 0) free
free_keys n begin values [] small each chain = tt
free_keys n begin values (i ∷ is) small each chain =
    let low = ap (λ v. v.low) chain.0 in
    let next = first_within n is each.1 in
    (omega (arith, low, next, small), free_keys n begin values is small each.1 chain.1)

-- the cell of a node that is in the list
record AtCell (cells : List Cell) (i : ℕ) : Type 0 where
  behind : List Cell
  cell : Cell
  ahead : List Cell
  split : cells ≡ behind ++ cell ∷ ahead
  number : cell.number ≡ i

at_index : (cells : List Cell) (i k : ℕ) → k < length (numbers_of cells) →
    slice_index_or (numbers_of cells) k i ≡ i → AtCell cells i
at_index [] i k within is = absurd (omega (arith, within))
at_index (c ∷ cs) i zero within is =
    record { behind = []; cell = c; ahead = cs; split = refl; number = is }
at_index (c ∷ cs) i (suc k) within is =
    let a = at_index cs i k (omega (arith, within)) is in
    record { behind = c ∷ a.behind; cell = a.cell; ahead = a.ahead; split = ap (λ d. c ∷ d) a.split; number = a.number }

at_first : (cells : List Cell) (i : ℕ) → 0 < i → first_of (numbers_of cells) ≡ i → AtCell cells i
at_first [] i some is = absurd (omega (arith, some, is))
at_first (c ∷ cs) i some is = record { behind = []; cell = c; ahead = cs; split = refl; number = is }

has_number : (n i : ℕ) → IsNumber n i → Contains (nodes_to n) i
has_number zero i within = absurd (omega (arith, within.0, within.1))
has_number (suc n) i within =
    elim (cases_eq i (suc n)) [
      | inl same ↦ (0, omega arith, sym same)
      | inr other ↦
          let rest = has_number n i (within.0, omega (arith, within.1, other)) in
          Contains-append_right (suc n ∷ []) (nodes_to n) i rest
    ]

at_number : {region : Region} {values : List Val} {held : List ℕ} (i : ℕ) → FitsList region →
    IsNumber region.nodes i → (list : HasKeys region values held) →
    0 < key_of (value_at values (node_object region.first i)) → AtCell list.cells i
at_number {region} {values} i fits number list some =
    let n = region.nodes in
    let begin = region.first in
    let numbers = numbers_of list.cells in
    let free = each-right (IsNumber n) numbers list.free (used_within list) in
    let zeros = free_keys n begin values list.free (omega (arith, fits.few)) free list.free_chain in
    let Zero = λ (j : ℕ). key_of (value_at values (node_object begin j)) ≡ 0 in
    elim (Contains-append_cases numbers list.free i
    (Contains-permutation (nodes_to n) (numbers ++ list.free) i (IsPermutation-sym _ _ list.once)
    (has_number n i number))) [
      | inl (k, within, is) ↦ at_index list.cells i k within is
      | inr in_free ↦
          let none = All-contains Zero list.free i (All-from_recursion Zero list.free zeros) in_free in
          absurd (omega (arith, some, none))
    ]

-- ---- where a node of the list stands

least_below : (least : ℕ) (behind : List Cell) (c : Cell) (ahead : List Cell) → Rise least (behind ++ c ∷ ahead) →
    least ≤ c.key
least_below least [] c ahead rise = rise.0
least_below least (d ∷ ds) c ahead rise = omega (arith, rise.0, least_below (d.key + 1) ds c ahead rise.1)

less_behind : (key least : ℕ) (behind : List Cell) (c : Cell) (ahead : List Cell) →
    Rise least (behind ++ c ∷ ahead) → c.key < key → AllLess key (behind ++ c ∷ [])
less_behind key least [] c ahead rise less = (less, tt)
less_behind key least (d ∷ ds) c ahead rise less =
    (omega (arith, least_below (d.key + 1) ds c ahead rise.1, less), less_behind key (d.key + 1) ds c ahead rise.1 less)

at_stands : {region : Region} {values : List Val} {held : List ℕ} (key : ℕ) {i : ℕ} (node : Node) → FitsList region →
    (list : HasKeys region values held) → AtCell list.cells i →
    node.key ≡ key_of (value_at values (node_object region.first i)) →
    node.next ≡ next_of (value_at values (node_object region.first i)) → node.key < key →
    Stands region.first key (node_object region.first i) node list.cells
at_stands {region} {values} key {i = i} node fits list at node_key node_next less =
    let n = region.nodes in
    let begin = region.first in
    let c = at.cell in
    let chain = IsChain-right begin values at.behind (c ∷ at.ahead)
    (subst (IsChain begin values) at.split list.chain) in
    let low : (value_at values (node_object begin i)).low ≡ c.key * 2048 + first_of (numbers_of at.ahead) =
    ap (λ j. (value_at values (node_object begin j)).low) (sym at.number) ∙ ap (λ v. v.low) chain.0 in
    let cells_within = each-left (IsNumber n) (numbers_of list.cells) list.free (used_within list) in
    let numbers : numbers_of list.cells ≡ numbers_of at.behind ++ c.number ∷ numbers_of at.ahead =
    ap numbers_of at.split ∙ map-append (λ (d : Cell). d.number) at.behind (c ∷ at.ahead) in
    let ahead_within = (each-right (IsNumber n) (numbers_of at.behind) (c.number ∷ numbers_of at.ahead)
    (subst (Each (IsNumber n)) numbers cells_within)).1 in
    let next = first_within n (numbers_of at.ahead) ahead_within in
    let key_is : node.key ≡ c.key = omega (arith, node_key, low, next, fits.few) in
    let rise = subst (Rise 0) at.split (rise_of list) in
    record {
      behind = at.behind ++ c ∷ [];
      ahead = at.ahead;
      split = at.split ∙ sym (append_assoc at.behind (c ∷ []) at.ahead);
      lesser = less_behind key 0 at.behind c at.ahead rise (omega (arith, key_is, less));
      link = ap (node_object begin) (sym at.number) ∙ sym (link_after-push begin begin at.behind c);
      last = key_is ∙ sym (key_after-push 0 at.behind c);
      next = omega (arith, node_next, low, next, fits.few);
    }

-- A node that holds a lesser key, and whose key is above 0 or that the head names, is in the list, with lesser
-- keys before it: in every map that stands for a list.
pub stands-kept : {region : Region} {values : List Val} {held : List ℕ} (key i : ℕ) (node : Node) → FitsList region →
    IsNumber region.nodes i → (list : HasKeys region values held) →
    node.key ≡ key_of (value_at values (node_object region.first i)) →
    node.next ≡ next_of (value_at values (node_object region.first i)) → node.key < key →
    (0 < node.key) ⊎ (first_of (numbers_of list.cells) ≡ i) →
    Stands region.first key (node_object region.first i) node list.cells
stands-kept key i node fits number list node_key node_next less (inl some) =
    at_stands key node fits list (at_number i fits number list (omega (arith, some, node_key)))
    node_key node_next less
stands-kept key i node fits number list node_key node_next less (inr named) =
    at_stands key node fits list (at_first list.cells i number.0 named) node_key node_next less
