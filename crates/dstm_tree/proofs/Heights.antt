-- How high a red-black tree is.
use Rattle.dstm_tree.proofs.Base.{◌≡◌, ℕ, suc, ◌+◌, ◌*◌, ◌^◌, ◌≤◌, Bool, true, false, cond, List, ◌++◌, ◌∷◌, length}
use Rattle.dstm_tree.proofs.Base.{max, refl, sym, ap, subst, ◌∙◌, arith, max-le, two-pow-succ, length-append, Tree}
use Rattle.dstm_tree.proofs.Base.{leaf, node, is_red, items_of, black_height, height, IsBalanced}

-- a red node adds to a way down
abbrev pub redness : Bool → ℕ
redness red = cond red 1 0

redness-one : (red : Bool) → redness red ≤ 1
redness-one true = omega arith
redness-one false = omega arith

low_node : (red : Bool) (l r : Tree) (b : ℕ) → height l ≤ 2 * b + redness (is_red l) →
    height r ≤ 2 * b + redness (is_red r) → (red ≡ true → (is_red l ≡ false) × (is_red r ≡ false)) →
    max (height l) (height r) + 1 ≤ 2 * (b + cond red 0 1) + redness red
low_node true l r b left right black =
    let left_black = subst (λ c. height l ≤ 2 * b + redness c) (black refl).0 left in
    let right_black = subst (λ c. height r ≤ 2 * b + redness c) (black refl).1 right in
    omega (arith, max-le left_black right_black)
low_node false l r b left right black =
    let left_most : height l ≤ 2 * b + 1 = omega (arith, redness-one (is_red l)) in
    let right_most : height r ≤ 2 * b + 1 = omega (arith, redness-one (is_red r)) in
    omega (arith, max-le left_most right_most)

-- no way down has more than twice as many nodes as black ones, but for a red root
pub low : (t : Tree) → IsBalanced t → height t ≤ 2 * black_height t + redness (is_red t)
low leaf h = omega arith
low (node n red l k v r) h =
    low_node red l r (black_height l) (low l h.2)
    (subst (λ b. height r ≤ 2 * b + redness (is_red r)) (sym h.0) (low r h.3)) h.1

many_node : (red : Bool) (b : ℕ) (x : ℕ × ℕ) (xs ys : List (ℕ × ℕ)) → 2 ^ b ≤ length xs + 1 → 2 ^ b ≤ length ys + 1 →
    2 ^ (b + cond red 0 1) ≤ length (xs ++ x ∷ ys) + 1
many_node true b x xs ys left right =
    let same : b + 0 ≡ b = omega arith in
    subst (λ n. 2 ^ n ≤ length (xs ++ x ∷ ys) + 1) (sym same) (omega (arith, length-append xs (x ∷ ys)))
many_node false b x xs ys left right =
    let next : b + 1 ≡ suc b = omega arith in
    let twice : 2 ^ (b + 1) ≡ 2 ^ b + 2 ^ b = ap (λ n. 2 ^ n) next ∙ two-pow-succ b in
    omega (arith, length-append xs (x ∷ ys))

-- a way with b black nodes makes a tree of 2 ^ b - 1 nodes at least
pub many : (t : Tree) → IsBalanced t → 2 ^ black_height t ≤ length (items_of t) + 1
many leaf h = omega arith
many (node n red l k v r) h =
    many_node red (black_height l) (k, v) (items_of l) (items_of r) (many l h.2)
    (subst (λ b. 2 ^ b ≤ length (items_of r) + 1) (sym h.0) (many r h.3))
