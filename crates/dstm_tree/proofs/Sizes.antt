-- How many nodes a tree and a free chain have, where each of n numbers stands in one of them, once.
use Rattle.dstm_tree.proofs.Base.{◌≡◌, ℕ, zero, suc, ◌+◌, ◌<◌, ◌≤◌, List, [], ◌∷◌, length, arith, refl, inl, inr}
use Rattle.dstm_tree.proofs.Base.{length-append, cases_eq, Val, Region, Tree, leaf, node, items_of, count_of, Holds}
use Rattle.dstm_tree.proofs.Base.{IsFreeChain, one_at, free_count}
use Rattle.dstm_tree.proofs.Kept.{one_at-same, one_at-other, free_count-first}

-- f 1 + .. + f n
total : ℕ → (ℕ → ℕ) → ℕ
total zero f = 0
total (suc n) f = total n f + f (suc n)

total-add : (n : ℕ) (f g : ℕ → ℕ) → total n (λ i. f i + g i) ≡ total n f + total n g
unfolding total
total-add zero f g = refl
total-add (suc n) f g = omega (arith, total-add n f g)

total-same : (n : ℕ) (f g : ℕ → ℕ) → ((i : ℕ) → 0 < i → i ≤ n → f i ≡ g i) → total n f ≡ total n g
unfolding total
total-same zero f g same = refl
total-same (suc n) f g same =
    let here : f (suc n) ≡ g (suc n) = same (suc n) (omega arith) (omega arith) in
    let before = total-same n f g (λ i least most. same i least (omega arith)) in
    omega arith

total-none : (n : ℕ) → total n (λ i. 0) ≡ 0
unfolding total
total-none zero = refl
total-none (suc n) = omega (arith, total-none n)

total-ones : (n : ℕ) → total n (λ i. 1) ≡ n
unfolding total
total-ones zero = refl
total-ones (suc n) = omega (arith, total-ones n)

total-one_at : (n j : ℕ) → 0 < j → j ≤ n → total n (one_at j) ≡ 1
unfolding total
total-one_at zero j least most = absurd (omega arith)
total-one_at (suc n) j least most =
    elim (cases_eq j (suc n)) [
      | inl same ↦
          let before : total n (one_at j) ≡ total n (λ i. 0) =
          total-same n (one_at j) (λ i. 0) (λ i _ below. one_at-other j i (λ e. omega arith)) in
          let none : total n (λ i. 0) ≡ 0 = total-none n in
          let here = one_at-same j (suc n) same in
          omega arith
      | inr other ↦
          let here = one_at-other j (suc n) other in
          omega (arith, total-one_at n j least (omega (arith, most, other)))
    ]

total-tree : (region : Region) (map : List Val) (t : Tree) → Holds region map t →
    total region.nodes (λ i. count_of i t) ≡ length (items_of t)
total-tree region map leaf nodes = total-none region.nodes
total-tree region map (node n red l k v r) nodes =
    let size = region.nodes in
    let root = total-one_at size n nodes.0 nodes.1 in
    let left = total-tree region map l nodes.3 in
    let right = total-tree region map r nodes.4 in
    let outer = total-add size (λ i. one_at n i + count_of i l) (λ i. count_of i r) in
    let inner = total-add size (one_at n) (λ i. count_of i l) in
    omega (arith, length-append (items_of l) ((k, v) ∷ items_of r))

total-chain : (region : Region) (map : List Val) (free : List ℕ) → IsFreeChain region map free →
    total region.nodes (λ i. free_count i free) ≡ length free
total-chain region map [] chain = total-none region.nodes
total-chain region map (n ∷ free) chain =
    let size = region.nodes in
    let first = total-one_at size n chain.0 chain.1 in
    let rest = total-chain region map free chain.3 in
    let split = total-same size (λ i. free_count i (n ∷ free)) (λ i. one_at n i + free_count i free)
    (λ i _ _. free_count-first i n free) in
    omega (arith, total-add size (one_at n) (λ i. free_count i free))

pub size_all : (region : Region) (map : List Val) (t : Tree) (free : List ℕ) → Holds region map t →
    IsFreeChain region map free → ((i : ℕ) → 0 < i → i ≤ region.nodes → count_of i t + free_count i free ≡ 1) →
    length (items_of t) + length free ≡ region.nodes
size_all region map t free nodes chain once =
    let size = region.nodes in
    let all = total-same size (λ i. count_of i t + free_count i free) (λ i. 1) once in
    omega (
      arith,
      total-ones size,
      total-add size (λ i. count_of i t) (λ i. free_count i free),
      total-tree region map t nodes,
      total-chain region map free chain,
    )
