-- A map stands for one set of keys only, also where other objects change; the opening values stand for the
-- empty set.
use Rattle.std.proofs.Common.{◌≡◌, ℕ, zero, suc, ◌+◌, ◌<◌, ◌≤◌, List, [], ◌∷◌, ◌++◌, length, arith, refl, sym, ◌∙◌, ap}
use Rattle.std.proofs.Common.{subst, inl, inr}
use Rattle.std.proofs.lemmas.Bool.{cases_eq}
use Rattle.std.specs.Prelude.{IsPermutation}
use Rattle.std.specs.List.{AllByRecursion as Each}
use Rattle.std.proofs.lemmas.List.{length-append, length-map}
use Rattle.std.proofs.lemmas.List.Sorted.{IsPermutation-refl, IsPermutation-sym, IsPermutation-cons}
use Rattle.std.proofs.lemmas.List.Sorted.{IsPermutation-trans, IsPermutation-to_front}
use Rattle.dstm_model.specs.declared.value.Val.{Val}
use Rattle.dstm_model.specs.Map.{value_at}
use Rattle.dstm_model.specs.Objects.{free_object, node_object, plain}
use Rattle.dstm_region.specs.declared.region.Region.{Region}
use Rattle.dstm_region.specs.Region.{IsInside}
use Rattle.dstm_list.specs.List.{Cell, HasKeys, IsChain, IsFreeChain, numbers_of, keys_of, first_of, nodes_to}
use Rattle.dstm_list.specs.List.{node}
use Rattle.dstm_list.proofs.Numbers.{IsNumber, as_many, each-map, each-left, each-right}
use Rattle.dstm_list.proofs.Objects.{IsChain-same, IsFreeChain-same}
use Rattle.dstm_list.proofs.Steps.{head-of_list, node-of_list, used_within, first_within}

-- ---- one set of keys

same_keys : (n begin : ℕ) (values : List Val) (cells others : List Cell) → n < 2048 →
    Each (IsNumber n) (numbers_of cells) → Each (IsNumber n) (numbers_of others) →
    first_of (numbers_of cells) ≡ first_of (numbers_of others) →
    IsChain begin values cells → IsChain begin values others → keys_of cells ≡ keys_of others
same_keys n begin values [] [] small used also is_first chain other = refl
same_keys n begin values [] (d ∷ ds) small used also is_first chain other = absurd (omega (arith, is_first, also.0.0))
same_keys n begin values (c ∷ cs) [] small used also is_first chain other = absurd (omega (arith, is_first, used.0.0))
same_keys n begin values (c ∷ cs) (d ∷ ds) small used also is_first chain other =
    let low : (node c.key (first_of (numbers_of cs))).low ≡ (node d.key (first_of (numbers_of ds))).low =
    ap (λ v. v.low) (sym chain.0 ∙ ap (λ i. value_at values (node_object begin i)) is_first ∙ other.0) in
    let next_c = first_within n (numbers_of cs) used.1 in
    let next_d = first_within n (numbers_of ds) also.1 in
    let key : c.key ≡ d.key = omega (arith, low, next_c, next_d, small) in
    let next : first_of (numbers_of cs) ≡ first_of (numbers_of ds) = omega (arith, low, next_c, next_d, small) in
    ap (λ k. k ∷ keys_of cs) key
    ∙ ap (λ ks. d.key ∷ ks) (same_keys n begin values cs ds small used.1 also.1 next chain.1 other.1)

-- the nodes that are in the list are at most as many as all nodes
pub used_most : {region : Region} {values : List Val} {held : List ℕ} (list : HasKeys region values held) →
    length list.cells ≤ region.nodes
used_most {region} list =
    let all = as_many region.nodes (numbers_of list.cells ++ list.free) (IsPermutation-sym _ _ list.once) in
    let used = length-append (numbers_of list.cells) list.free in
    let numbers = length-map list.cells (λ (c : Cell). c.number) in
    omega (arith, all, used, numbers)

pub empty : (cells : List Cell) → length cells ≡ 0 → keys_of cells ≡ []
empty [] none = refl
empty (c ∷ cs) none = absurd (omega (arith, none))

-- a list that is not declared has no keys
pub no_keys : {region : Region} {values : List Val} {held : List ℕ} → region.nodes ≡ 0 →
    HasKeys region values held → held ≡ []
no_keys none list = list.keys ∙ empty list.cells (omega (arith, used_most list, none))

pub keys-unique : {region : Region} {values : List Val} {one two : List ℕ} → region.nodes < 2048 →
    HasKeys region values one → HasKeys region values two → one ≡ two
keys-unique {region} {values} small a b =
    let n = region.nodes in
    let used = each-left (IsNumber n) (numbers_of a.cells) a.free (used_within a) in
    let also = each-left (IsNumber n) (numbers_of b.cells) b.free (used_within b) in
    elim (cases_eq n 0) [
      | inl none ↦ no_keys none a ∙ sym (no_keys none b)
      | inr some ↦
          let declared : 0 < n = omega (arith, some) in
          let is_first : first_of (numbers_of a.cells) ≡ first_of (numbers_of b.cells) =
          ap (λ v. v.low) (sym (a.head declared) ∙ b.head declared) in
          a.keys
          ∙ same_keys n region.first values a.cells b.cells
          small used also is_first a.chain b.chain
          ∙ sym b.keys
    ]

-- ---- a map in which the region's objects are unchanged

pub HasKeys-kept : {region : Region} {values : List Val} {held : List ℕ} (after : List Val) →
    (0 < region.nodes → (p : ℕ) → IsInside region p → value_at after p ≡ value_at values p) →
    HasKeys region values held → HasKeys region after held
HasKeys-kept {region} {values} after same list =
    let n = region.nodes in
    let begin = region.first in
    let numbers = numbers_of list.cells in
    let Keeps = λ (i : ℕ). value_at after (node_object begin i) ≡ value_at values (node_object begin i) in
    let kept = each-map (IsNumber n) Keeps
    (λ i h.
    let declared : 0 < n = omega (arith, h.0, h.1) in
    same declared (node_object begin i) (node-of_list region i declared h.1))
    (numbers ++ list.free) (used_within list) in
    record {
      cells = list.cells;
      free = list.free;
      keys = list.keys;
      rising = list.rising;
      head = λ declared. same declared begin (head-of_list region declared) ∙ list.head declared;
      chain = IsChain-same begin values after list.cells (each-left Keeps numbers list.free kept) list.chain;
      free_head = λ declared.
          let free = node-of_list region 0 declared (omega arith) in
          same declared (free_object begin) (omega (arith, free), omega (arith, free)) ∙ list.free_head declared;
      free_chain =
          IsFreeChain-same begin values after list.free (each-right Keeps numbers list.free kept) list.free_chain;
      once = list.once;
    }

-- ---- the opening values

-- no key is there, and the nodes are free in the order of their numbers
pub record IsOpening (region : Region) (values : List Val) : Type 0 where
  pub head : value_at values region.first ≡ plain 0
  pub free : value_at values (free_object region.first) ≡ plain 1
  pub nodes : (i : ℕ) → 0 < i → i < region.nodes →
      value_at values (node_object region.first i) ≡ plain (i + 1)
  pub last : value_at values (node_object region.first region.nodes) ≡ plain 0

-- n numbers from k on
abbrev from_on : ℕ → ℕ → List ℕ
from_on k zero = []
from_on k (suc n) = k ∷ from_on (suc k) n

from_on-push : (k n : ℕ) → from_on k (suc n) ≡ from_on k n ++ (k + n) ∷ []
from_on-push k zero = ap (λ i. i ∷ []) (omega arith)
from_on-push k (suc n) =
    let next : suc k + n ≡ k + suc n = omega arith in
    ap (λ is. k ∷ is) (from_on-push (suc k) n ∙ ap (λ i. from_on (suc k) n ++ i ∷ []) next)

all_from_one : (n : ℕ) → IsPermutation (from_on 1 n) (nodes_to n)
all_from_one zero = IsPermutation-refl []
all_from_one (suc n) =
    let last : 1 + n ≡ suc n = omega arith in
    let pushed = from_on-push 1 n ∙ ap (λ i. from_on 1 n ++ i ∷ []) last in
    subst (λ is. IsPermutation is (suc n ∷ nodes_to n)) (sym pushed)
    (IsPermutation-trans _ _ _ (IsPermutation-to_front (from_on 1 n) (suc n))
    (IsPermutation-cons (suc n) (from_on 1 n) (nodes_to n) (all_from_one n)))

free_chain : {region : Region} {values : List Val} → IsOpening region values → (k n : ℕ) → 0 < k →
    k + n ≡ region.nodes + 1 → IsFreeChain region.first values (from_on k n)
free_chain opening k zero some all = tt
free_chain {region = region} {values = values} opening k (suc zero) some all =
    let last : k ≡ region.nodes = omega (arith, all) in
    (ap (λ i. value_at values (node_object region.first i)) last ∙ opening.last, tt)
free_chain {region = region} {values = values} opening k (suc (suc n)) some all =
    let next : k + 1 ≡ suc k = omega arith in (
      opening.nodes k some (omega (arith, all)) ∙ ap plain next,
      free_chain opening (suc k) (suc n) (omega arith) (omega (arith, all)),
    )

first_from : (k n : ℕ) → 0 < n → first_of (from_on k n) ≡ k
first_from k zero some = absurd (omega (arith, some))
first_from k (suc n) some = refl

pub HasKeys-opening : (region : Region) (values : List Val) → (0 < region.nodes → IsOpening region values) →
    HasKeys region values []
HasKeys-opening region values opening = record {
  cells = [];
  free = from_on 1 region.nodes;
  keys = refl;
  rising = λ k below. absurd (omega (arith, below));
  head = λ declared. (opening declared).head;
  chain = tt;
  free_head = λ declared. (opening declared).free ∙ ap plain (sym (first_from 1 region.nodes declared));
  free_chain = elim (cases_eq region.nodes 0) [
    | inl none ↦ subst (λ n. IsFreeChain region.first values (from_on 1 n)) (sym none) tt
    | inr some ↦
        free_chain (opening (omega (arith, some))) 1 region.nodes (omega arith) (omega arith)
  ];
  once = all_from_one region.nodes;
}
