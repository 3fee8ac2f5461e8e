-- What holds of a node and its two sides, whichever side is called near.
use Rattle.dstm_tree.proofs.Base.{◌≡◌, ℕ, ◌+◌, ◌∷◌, ◌++◌, arith, refl, sym, ◌∙◌, ap, append_assoc, Node, Side, Left}
use Rattle.dstm_tree.proofs.Base.{Right, on, other, Tree, items_of, count_of, black_height, child, with_child, sided}
use Rattle.dstm_tree.proofs.Base.{one_at, blackness}

-- ---- children

pub other-other : (side : Side) (x : Node) → child (other (other side)) x ≡ child side x
other-other Left x = refl
other-other Right x = refl

pub child-set : (side : Side) (n : ℕ) (x : Node) → child side (with_child side n x) ≡ n
child-set Left n x = refl
child-set Right n x = refl

pub child-kept : (side : Side) (n : ℕ) (x : Node) → child (other side) (with_child side n x) ≡ child (other side) x
child-kept Left n x = refl
child-kept Right n x = refl

pub child-kept_too : (side : Side) (n : ℕ) (x : Node) → child side (with_child (other side) n x) ≡ child side x
child-kept_too Left n x = refl
child-kept_too Right n x = refl

-- ---- trees

pub sided-other : (side : Side) (x : Node) (a b : Tree) → sided (other side) x a b ≡ sided side x b a
sided-other Left x a b = refl
sided-other Right x a b = refl

pub sided-counts : (side : Side) (x : Node) (a b : Tree) (i : ℕ) →
    count_of i (sided side x a b) ≡ one_at x.number i + count_of i a + count_of i b
sided-counts Left x a b i = refl
sided-counts Right x a b i = omega arith

pub sided-height : (side : Side) (x : Node) (a b : Tree) → black_height a ≡ black_height b →
    black_height (sided side x a b) ≡ black_height a + blackness x.red
sided-height Left x a b same = refl
sided-height Right x a b same = omega arith

-- ---- items

-- a node's key with its value
abbrev pub item_of : Node → ℕ × ℕ
item_of x = (x.key, x.value)

pub items-near : (side : Side) (x : Node) (a a' b : Tree) → items_of a ≡ items_of a' →
    items_of (sided side x a b) ≡ items_of (sided side x a' b)
items-near Left x a a' b same = ap (λ xs. xs ++ item_of x ∷ items_of b) same
items-near Right x a a' b same = ap (λ xs. items_of b ++ item_of x ∷ xs) same

pub items-far : (side : Side) (x : Node) (a b b' : Tree) → items_of b ≡ items_of b' →
    items_of (sided side x a b) ≡ items_of (sided side x a b')
items-far Left x a b b' same = ap (λ xs. items_of a ++ item_of x ∷ xs) same
items-far Right x a b b' same = ap (λ xs. xs ++ item_of x ∷ items_of a) same

-- A rotation keeps the items, also where the nodes are changed but for their keys and values:
--
--        x                        y
--      /   \                    /   \
--     a     y                  x     c
--         /   \              /   \
--        b     c            a     b
pub turned : (side : Side) (x y x' y' : Node) (a b c : Tree) → item_of x' ≡ item_of x → item_of y' ≡ item_of y →
    items_of (sided side y' (sided side x' a b) c) ≡ items_of (sided side x a (sided side y b c))
turned Left x y x' y' a b c same_x same_y =
    ap (λ e. (items_of a ++ e ∷ items_of b) ++ item_of y' ∷ items_of c) same_x ∙ ap
    (λ e. (items_of a ++ item_of x ∷ items_of b) ++ e ∷ items_of c) same_y ∙ append_assoc (items_of a)
    (item_of x ∷ items_of b) (item_of y ∷ items_of c)
turned Right x y x' y' a b c same_x same_y =
    ap (λ e. items_of c ++ item_of y' ∷ (items_of b ++ e ∷ items_of a)) same_x ∙ ap
    (λ e. items_of c ++ e ∷ (items_of b ++ item_of x ∷ items_of a)) same_y ∙ sym
    (append_assoc (items_of c) (item_of y ∷ items_of b) (item_of x ∷ items_of a))

-- for sums over a node's two sides
pub on-counts : (i : ℕ) (side : Side) (a b : Tree) →
    count_of i (on side a b) + count_of i (on side b a) ≡ count_of i a + count_of i b
on-counts i Left a b = refl
on-counts i Right a b = omega arith
