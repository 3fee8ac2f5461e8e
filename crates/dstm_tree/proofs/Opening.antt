-- The map in which the tree is empty and each node is free, in rising order.
use Rattle.dstm_tree.proofs.Base.{◌≡◌, ℕ, zero, suc, ◌+◌, ◌<◌, ◌≤◌, List, [], ◌∷◌, arith, refl, sym, ◌∙◌, ap, inl, inr}
use Rattle.dstm_tree.proofs.Base.{eq-eqb, cond, if◌then◌else◌, ◌==◌, cases_eq, ne_eqb, Val, Region, value_at, plain}
use Rattle.dstm_tree.proofs.Base.{leaf, root_of, free_of, object_of, first_of, IsFreeChain, HasItems, free_count}
use Rattle.dstm_tree.proofs.Kept.{one_at-same, one_at-other, free_count-first}

-- what follows node i of n
abbrev pub next_of : ℕ → ℕ → ℕ
next_of n i = if i == n then 0 else i + 1

-- k, k + 1, and so on, n numbers
numbers : ℕ → ℕ → List ℕ
numbers k zero = []
numbers k (suc n) = k ∷ numbers (k + 1) n

pub next-last : (n k : ℕ) → k ≡ n → next_of n k ≡ 0
next-last n k e = ap (λ b. cond b 0 (k + 1)) (eq-eqb k n e)

pub next-more : (n k : ℕ) → (k ≡ n → ⊥) → next_of n k ≡ k + 1
next-more n k e = ap (λ b. cond b 0 (k + 1)) (ne_eqb k n e)

first_is : (k n all : ℕ) → k + n ≡ all → first_of (numbers (k + 1) n) ≡ next_of all k
unfolding numbers
first_is k zero all total = sym (next-last all k (omega arith))
first_is k (suc n) all total = sym (next-more all k (λ e. omega arith))

chain : (region : Region) (map : List Val) →
    ((i : ℕ) → 0 < i → i ≤ region.nodes → value_at map (object_of region i) ≡ plain (next_of region.nodes i)) →
    (k n : ℕ) → 0 < k → k + n ≡ region.nodes + 1 → IsFreeChain region map (numbers k n)
unfolding numbers
chain region map nodes k zero some total = tt
chain region map nodes k (suc n) some total =
    let within : k ≤ region.nodes = omega arith in (
      some,
      within,
      nodes k some within ∙ ap plain (sym (first_is k n region.nodes (omega arith))),
      chain region map nodes (k + 1) n (omega arith) (omega arith),
    )

none_below : (k n i : ℕ) → i < k → free_count i (numbers k n) ≡ 0
unfolding numbers
none_below k zero i below = refl
none_below k (suc n) i below =
    let none = one_at-other k i (λ e. omega arith) in
    omega (arith, free_count-first i k (numbers (k + 1) n), none_below (k + 1) n i (omega (arith, below)))

once : (k n i : ℕ) → k ≤ i → i < k + n → free_count i (numbers k n) ≡ 1
unfolding numbers
once k zero i least most = absurd (omega arith)
once k (suc n) i least most =
    elim (cases_eq k i) [
      | inl same ↦
          let one = one_at-same k i same in
          omega (arith, free_count-first i k (numbers (k + 1) n), none_below (k + 1) n i (omega (arith, same)))
      | inr other ↦
          let none = one_at-other k i other in
          omega (
            arith,
            free_count-first i k (numbers (k + 1) n),
            once (k + 1) n i (omega (arith, least, other)) (omega (arith, most)),
          )
    ]

-- the opening values are those of an empty tree
pub HasItems-opening : (limit : ℕ) (region : Region) (map : List Val) → value_at map (root_of region) ≡ plain 0 →
    value_at map (free_of region) ≡ plain (next_of region.nodes 0) →
    ((i : ℕ) → 0 < i → i ≤ region.nodes → value_at map (object_of region i) ≡ plain (next_of region.nodes i)) →
    HasItems limit region map []
HasItems-opening limit region map root free nodes = record {
  tree = leaf;
  free = numbers 1 region.nodes;
  root = root;
  unused = free ∙ ap plain (sym (first_is 0 region.nodes region.nodes (omega arith)));
  nodes = tt;
  chain = chain region map nodes 1 region.nodes (omega arith) (omega arith);
  once = λ i least most. omega (arith, once 1 region.nodes i (omega (arith, least)) (omega (arith, most)));
  red_black = record { order = omega arith; black = refl; balanced = tt };
  items = refl;
}
