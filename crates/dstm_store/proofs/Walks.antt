-- A walk along the list, which reads its keys, and the balances of the accounts.
use Rattle.std.proofs.Common.{◌≡◌, ◌≢◌, ℕ, ◌+◌, ◌<◌, ◌≤◌, List, [], ◌∷◌, ◌++◌, length, map, take, arith}
use Rattle.std.proofs.Common.{refl, sym, ◌∙◌, ap, subst, append_assoc, append-nil}
use Rattle.std.specs.List.{AllByRecursion as Each}
use Rattle.std.proofs.lemmas.List.{length-map, length-take-le, ext_get_or, get_or-map, get_or-take}
use Rattle.dstm_model.specs.declared.value.Val.{Val}
use Rattle.dstm_model.specs.declared.layout.Layout.{Layout}
use Rattle.dstm_model.specs.Layout.{IsValid}
use Rattle.dstm_model.specs.Map.{value_at, no_value}
use Rattle.dstm_model.specs.Store.{Store}
use Rattle.dstm_model.specs.Objects.{IsBank, list_begin, node_object}
use Rattle.dstm_list.specs.declared.node.Node.{Node}
use Rattle.dstm_list.specs.List.{Cell, IsList, IsChain, numbers_of, keys_of, first_of, key_of, next_of}
use Rattle.dstm_list.proofs.Numbers.{IsNumber, each-left}
use Rattle.dstm_list.proofs.Steps.{used_within, first_within, next_in}
use Rattle.dstm_list.proofs.Operations.{none_free}
use Rattle.dstm_list.proofs.Lists.{used_most, empty}

-- ---- the accounts

pub balances-read : (layout : Layout) (values : List Val) (store : Store) → layout.accounts ≤ length values →
    IsBank layout values store → map (λ (v : Val). v.low) (take layout.accounts values) ≡ store.balances
balances-read layout values store within bank =
    let first_values = take layout.accounts values in
    let low = λ (v : Val). v.low in
    let size : length (map low first_values) ≡ layout.accounts =
    length-map first_values low ∙ length-take-le layout.accounts values within in
    ext_get_or 0 (map low first_values) store.balances (size ∙ sym bank.accounts)
    (λ a below.
    let in_bank : a < layout.accounts = omega (arith, below, size) in
    let in_first : a < length first_values = omega (arith, below, length-map first_values low) in
    get_or-map low first_values a no_value 0 in_first
    ∙ ap low (get_or-take layout.accounts values a no_value in_bank ∙ bank.values a in_bank))

-- ---- a walk

-- after i steps a walk has read the keys of the cells behind it, and node `at` is the first of those ahead
pub record Walk (begin n : ℕ) (values : List Val) (keys : List ℕ) (at i : ℕ) (cells : List Cell) : Type 0 where
  pub ahead : List Cell
  pub keys_are : keys_of cells ≡ keys ++ keys_of ahead
  pub next : at ≡ first_of (numbers_of ahead)
  pub chain : IsChain begin values ahead
  pub within : Each (IsNumber n) (numbers_of ahead)
  pub left : i + length ahead ≤ n

pub walk-start : (layout : Layout) (values : List Val) (store : Store) (at : ℕ) → IsValid layout → 0 < layout.list →
    (list : IsList layout values store) → at ≡ next_of (value_at values (list_begin layout)) →
    Walk (list_begin layout) layout.list values [] at 0 list.holds.cells
walk-start layout values store at valid declared list is =
    let numbers = numbers_of list.holds.cells in
    let in_range = each-left (IsNumber layout.list) numbers list.holds.free (used_within list.holds) in
    let head = ap (λ v. v.low) (list.holds.head declared) in
    record {
      ahead = list.holds.cells;
      keys_are = refl;
      next = omega (arith, is, head, first_within layout.list numbers in_range, valid.list);
      chain = list.holds.chain;
      within = in_range;
      left = omega (arith, used_most list.holds);
    }

-- the next node is one of the layout's
pub walk-within : {begin n : ℕ} {values : List Val} {keys : List ℕ} {at i : ℕ} {cells : List Cell} →
    Walk begin n values keys at i cells → at ≤ n
walk-within {n = n} walk = omega (arith, walk.next, first_within n (numbers_of walk.ahead) walk.within)

-- a walk with nothing ahead has read all keys
all_read : {begin n : ℕ} {values : List Val} {keys : List ℕ} {at i : ℕ} {cells : List Cell}
    (walk : Walk begin n values keys at i cells) → length walk.ahead ≡ 0 → keys ≡ keys_of cells
all_read {keys = keys} walk none =
    sym (walk.keys_are ∙ ap (λ ks. keys ++ ks) (empty walk.ahead none) ∙ append-nil keys)

-- as one has that has come to the end
pub walk-end : {begin n : ℕ} {values : List Val} {keys : List ℕ} {at i : ℕ} {cells : List Cell} →
    Walk begin n values keys at i cells → at ≡ 0 → keys ≡ keys_of cells
walk-end {n = n} walk none =
    let ahead = numbers_of walk.ahead in
    let no_numbers = none_free n ahead walk.within (sym walk.next ∙ none) in
    all_read walk (omega (arith, no_numbers, length-map walk.ahead (λ (c : Cell). c.number)))

-- and one of as many steps as there are nodes
pub walk-all : {begin n : ℕ} {values : List Val} {keys : List ℕ} {at i : ℕ} {cells : List Cell} →
    Walk begin n values keys at i cells → n ≤ i → keys ≡ keys_of cells
walk-all walk all = all_read walk (omega (arith, walk.left, all))

-- the next node
pub walk-next : (begin n : ℕ) (values : List Val) (keys : List ℕ) (at i : ℕ) (cells : List Cell) (x : Node) →
    n < 2048 → Walk begin n values keys at i cells → at ≢ 0 →
    x.key ≡ key_of (value_at values (node_object begin at)) →
    x.next ≡ next_of (value_at values (node_object begin at)) →
    Walk begin n values (keys ++ x.key ∷ []) x.next (i + 1) cells
walk-next begin n values keys at i cells x small walk some key next =
    let step = next_in n begin values at x walk.ahead small some walk.next walk.within walk.chain key next in
    let in_range = subst (λ cs. Each (IsNumber n) (numbers_of cs)) step.cells_are walk.within in
    let chain = subst (IsChain begin values) step.cells_are walk.chain in
    record {
      ahead = step.rest;
      keys_are = walk.keys_are ∙ ap (λ cs. keys ++ keys_of cs) step.cells_are
          ∙ ap (λ k. keys ++ k ∷ keys_of step.rest) step.key
          ∙ sym (append_assoc keys (x.key ∷ []) (keys_of step.rest));
      next = step.next_is;
      chain = chain.1;
      within = in_range.1;
      left = omega (arith, walk.left, ap length step.cells_are);
    }
