-- The items of a tree in search order: what a look-up, an insertion and a removal do to them is done in one
-- of its parts, and they ascend afterwards.
use Rattle.dstm_tree.proofs.Base.{◌≡◌, ℕ, ◌+◌, ◌<◌, ◌≤◌, Bool, true, false, List, [], ◌∷◌, ◌++◌, length, arith, refl}
use Rattle.dstm_tree.proofs.Base.{sym, ◌∙◌, ap, subst, inl, inr, eq-eqb, append-nil, length-append, cond, if◌then◌else◌}
use Rattle.dstm_tree.proofs.Base.{nat_lt, ◌==◌, Some, None, Ordering, Less, Equal, Greater, nat_cmp, match_ordering}
use Rattle.dstm_tree.proofs.Base.{is_eq, lt-ltb, le-ltb, ne_eqb, cases_order, value_of, with_item, without_item, Node}
use Rattle.dstm_tree.proofs.Base.{Side, Left, Right, on, IsToward, Tree, leaf, node, items_of, IsOrdered, sided}
use Rattle.dstm_tree.proofs.Base.{tree_of, Option}
use Rattle.dstm_tree.proofs.Sides.{items-near, item_of}

nat_cmp-less : (x y : ℕ) → x < y → nat_cmp x y ≡ Less
nat_cmp-less x y less = ap (λ b. cond b Less (cond (x == y) Equal Greater)) (lt-ltb x y less)

nat_cmp-equal : (x y : ℕ) → x ≡ y → nat_cmp x y ≡ Equal
nat_cmp-equal x y same =
    ap (λ b. cond b Less (cond (x == y) Equal Greater)) (le-ltb x y (omega arith)) ∙ ap (λ b. cond b Equal Greater)
    (eq-eqb x y same)

nat_cmp-greater : (x y : ℕ) → y < x → nat_cmp x y ≡ Greater
nat_cmp-greater x y greater =
    ap (λ b. cond b Less (cond (x == y) Equal Greater)) (le-ltb x y (omega arith)) ∙ ap (λ b. cond b Equal Greater)
    (ne_eqb x y (λ e. omega arith))

at_other : (x y : ℕ) → (x ≡ y → ⊥) → is_eq (nat_cmp x y) ≡ false
at_other x y other =
    elim (nat_lt x y) as (λ b. is_eq (cond b Less (cond (x == y) Equal Greater)) ≡ false) [
      | true ↦ refl
      | false ↦ ap (λ b. is_eq (cond b Equal Greater)) (ne_eqb x y other)
    ]

at_same : (x y : ℕ) → x ≡ y → is_eq (nat_cmp x y) ≡ true
at_same x y same = ap is_eq (nat_cmp-equal x y same)

-- the keys ascend, none is below `low`, and each is below `high`
abbrev pub Ascends : ℕ → ℕ → List (ℕ × ℕ) → Type 0
Ascends low high [] = low ≤ high
Ascends low high (e ∷ es) = (low ≤ e.0) × Ascends (e.0 + 1) high es

joined : (low high k v : ℕ) (xs ys : List (ℕ × ℕ)) → Ascends low k xs → Ascends (k + 1) high ys →
    Ascends low high (xs ++ (k, v) ∷ ys)
joined low high k v [] ys in_xs in_ys = (in_xs, in_ys)
joined low high k v (x ∷ xs) ys in_xs in_ys = (in_xs.0, joined (x.0 + 1) high k v xs ys in_xs.1 in_ys)

parted : (low high k v : ℕ) (xs ys : List (ℕ × ℕ)) → Ascends low high (xs ++ (k, v) ∷ ys) →
    Ascends low k xs × Ascends (k + 1) high ys
parted low high k v [] ys h = h
parted low high k v (x ∷ xs) ys h =
    let rest = parted (x.0 + 1) high k v xs ys h.1 in ((h.0, rest.0), rest.1)

reach : (low high : ℕ) (es : List (ℕ × ℕ)) → Ascends low high es → low ≤ high
reach low high [] h = h
reach low high (e ∷ es) h = omega (arith, reach (e.0 + 1) high es h.1)

-- a tree is in search order if its items ascend
pub ascends : (low high : ℕ) (t : Tree) → IsOrdered low high t → Ascends low high (items_of t)
ascends low high leaf order = order
ascends low high (node n red l k v r) order =
    joined low high k v (items_of l) (items_of r) (ascends low k l order.0) (ascends (k + 1) high r order.1)

pub ordered : (low high : ℕ) (t : Tree) → Ascends low high (items_of t) → IsOrdered low high t
ordered low high leaf h = h
ordered low high (node n red l k v r) h =
    let both = parted low high k v (items_of l) (items_of r) h in
    (ordered low k l both.0, ordered (k + 1) high r both.1)

-- ---- the three operations on items, of which those in front or behind are apart from the key

value_of-below : (key low high : ℕ) (es : List (ℕ × ℕ)) → key < low → Ascends low high es → value_of key es ≡ None
value_of-below key low high [] below h = refl
value_of-below key low high (e ∷ es) below h =
    ap (λ b. cond b (Some e.1) (value_of key es)) (at_other key e.0 (λ same. omega arith)) ∙ value_of-below key
    (e.0 + 1) high es (omega arith) h.1

value_of-front : (key : ℕ) (xs ys : List (ℕ × ℕ)) → value_of key ys ≡ None → value_of key (xs ++ ys) ≡ value_of key xs
value_of-front key [] ys none = none
value_of-front key (x ∷ xs) ys none = ap (λ o. cond (is_eq (nat_cmp key x.0)) (Some x.1) o)
    (value_of-front key xs ys none)

value_of-behind : (key low high : ℕ) (xs ys : List (ℕ × ℕ)) → Ascends low high xs → high ≤ key →
    value_of key (xs ++ ys) ≡ value_of key ys
value_of-behind key low high [] ys h past = refl
value_of-behind key low high (x ∷ xs) ys h past =
    ap (λ b. cond b (Some x.1) (value_of key (xs ++ ys)))
    (at_other key x.0 (λ same. omega (arith, reach (x.0 + 1) high xs h.1))) ∙ value_of-behind key (x.0 + 1) high xs ys
    h.1 past

match_ordering-append : (o : Ordering) (a b c zs : List (ℕ × ℕ)) →
    match_ordering o (a ++ zs) (b ++ zs) (c ++ zs) ≡ match_ordering o a b c ++ zs
match_ordering-append Less a b c zs = refl
match_ordering-append Equal a b c zs = refl
match_ordering-append Greater a b c zs = refl

with_item-front : (key value k v : ℕ) (xs ys : List (ℕ × ℕ)) → key < k →
    with_item key value (xs ++ (k, v) ∷ ys) ≡ with_item key value xs ++ (k, v) ∷ ys
with_item-front key value k v [] ys less =
    ap (λ o. match_ordering o ((key, value) ∷ (k, v) ∷ ys) ((k, value) ∷ ys) ((k, v) ∷ with_item key value ys))
    (nat_cmp-less key k less)
with_item-front key value k v (x ∷ xs) ys less =
    let zs = (k, v) ∷ ys in
    ap (λ rest. match_ordering (nat_cmp key x.0) ((key, value) ∷ x ∷ (xs ++ zs)) ((x.0, value) ∷ (xs ++ zs)) (x ∷ rest))
    (with_item-front key value k v xs ys less) ∙ match_ordering-append (nat_cmp key x.0) ((key, value) ∷ x ∷ xs)
    ((x.0, value) ∷ xs) (x ∷ with_item key value xs) zs

with_item-behind : (key value low high : ℕ) (xs ys : List (ℕ × ℕ)) → Ascends low high xs → high ≤ key →
    with_item key value (xs ++ ys) ≡ xs ++ with_item key value ys
with_item-behind key value low high [] ys h past = refl
with_item-behind key value low high (x ∷ xs) ys h past =
    ap (λ o. match_ordering o ((key, value) ∷ x ∷ (xs ++ ys)) ((x.0, value) ∷ (xs ++ ys))
    (x ∷ with_item key value (xs ++ ys))) (nat_cmp-greater key x.0 (omega (arith, reach (x.0 + 1) high xs h.1))) ∙ ap
    (λ rest. x ∷ rest) (with_item-behind key value (x.0 + 1) high xs ys h.1 past)

pub missed : (b : Bool) (x : ℕ) (o : Option ℕ) → cond b (Some x) o ≡ None → b ≡ false
missed true x o none = absurd (cc none)
missed false x o none = refl

pub missed_too : (b : Bool) (x : ℕ) (o : Option ℕ) → cond b (Some x) o ≡ None → o ≡ None
missed_too true x o none = absurd (cc none)
missed_too false x o none = none

-- an absent key is taken out of nothing
pub without_item-absent : (key : ℕ) (es : List (ℕ × ℕ)) → value_of key es ≡ None → without_item key es ≡ es
without_item-absent key [] absent = refl
without_item-absent key (e ∷ es) absent =
    let other = missed (is_eq (nat_cmp key e.0)) e.1 (value_of key es) absent in
    let absent_too = missed_too (is_eq (nat_cmp key e.0)) e.1 (value_of key es) absent in
    ap (λ b. cond b es (e ∷ without_item key es)) other ∙ ap (λ rest. e ∷ rest) (without_item-absent key es absent_too)

cond-append : (b : Bool) (a c zs : List (ℕ × ℕ)) → cond b (a ++ zs) (c ++ zs) ≡ cond b a c ++ zs
cond-append true a c zs = refl
cond-append false a c zs = refl

without_item-front : (key : ℕ) (xs ys : List (ℕ × ℕ)) → without_item key ys ≡ ys →
    without_item key (xs ++ ys) ≡ without_item key xs ++ ys
without_item-front key [] ys none = none
without_item-front key (x ∷ xs) ys none =
    ap (λ rest. cond (is_eq (nat_cmp key x.0)) (xs ++ ys) (x ∷ rest)) (without_item-front key xs ys none) ∙ cond-append
    (is_eq (nat_cmp key x.0)) xs (x ∷ without_item key xs) ys

without_item-behind : (key low high : ℕ) (xs ys : List (ℕ × ℕ)) → Ascends low high xs → high ≤ key →
    without_item key (xs ++ ys) ≡ xs ++ without_item key ys
without_item-behind key low high [] ys h past = refl
without_item-behind key low high (x ∷ xs) ys h past =
    ap (λ b. cond b (xs ++ ys) (x ∷ without_item key (xs ++ ys)))
    (at_other key x.0 (λ same. omega (arith, reach (x.0 + 1) high xs h.1))) ∙ ap (λ rest. x ∷ rest)
    (without_item-behind key (x.0 + 1) high xs ys h.1 past)

-- ---- the items ascend after an insertion and a removal

pub ascends-with : (low high key value : ℕ) (es : List (ℕ × ℕ)) → low ≤ key → key < high → Ascends low high es →
    Ascends low high (with_item key value es)
ascends-with low high key value [] least most h = (least, omega arith)
ascends-with low high key value (e ∷ es) least most h =
    let P : Ordering → Type 0 = λ o. Ascends low high
    (match_ordering o ((key, value) ∷ e ∷ es) ((e.0, value) ∷ es) (e ∷ with_item key value es)) in
    elim (cases_order key e.0) [
      | inl same ↦ subst P (sym (nat_cmp-equal key e.0 same)) h
      | inr apart ↦
          elim apart [
            | inl less ↦ subst P (sym (nat_cmp-less key e.0 less)) (least, (omega arith, h.1))
            | inr greater ↦
                subst P (sym (nat_cmp-greater key e.0 greater))
                (h.0, ascends-with (e.0 + 1) high key value es (omega arith) most h.1)
          ]
    ]

lower : (less low high : ℕ) (es : List (ℕ × ℕ)) → less ≤ low → Ascends low high es → Ascends less high es
lower less low high [] below h = omega arith
lower less low high (e ∷ es) below h = (omega arith, h.1)

taken : (b : Bool) (low high : ℕ) (e : ℕ × ℕ) (es rest : List (ℕ × ℕ)) → low ≤ e.0 → Ascends (e.0 + 1) high es →
    Ascends (e.0 + 1) high rest → Ascends low high (cond b es (e ∷ rest))
taken true low high e es rest least h more = lower low (e.0 + 1) high es (omega arith) h
taken false low high e es rest least h more = (least, more)

pub ascends-without : (low high key : ℕ) (es : List (ℕ × ℕ)) → Ascends low high es →
    Ascends low high (without_item key es)
ascends-without low high key [] h = h
ascends-without low high key (e ∷ es) h =
    taken (is_eq (nat_cmp key e.0)) low high e es (without_item key es) h.0 h.1
    (ascends-without (e.0 + 1) high key es h.1)

-- ---- at a root, toward a side: what a look-up, an insertion and a removal do to the items is done there

pub order-near : (side : Side) (low high : ℕ) (x : Node) (near far : Tree) →
    IsOrdered low high (sided side x near far) → IsOrdered (on side low (x.key + 1)) (on side x.key high) near
order-near Left low high x near far order = order.0
order-near Right low high x near far order = order.1

pub sided-length : (side : Side) (x : Node) (near far : Tree) →
    length (items_of (sided side x near far)) ≡ length (items_of near) + length (items_of far) + 1
sided-length Left x near far = omega (arith, length-append (items_of near) (item_of x ∷ items_of far))
sided-length Right x near far = omega (arith, length-append (items_of far) (item_of x ∷ items_of near))

-- what stands at the root and behind it
from_root : (high : ℕ) (x : Node) (r : Tree) → IsOrdered (x.key + 1) high r →
    Ascends x.key high (item_of x ∷ items_of r)
from_root high x r order = (omega arith, ascends (x.key + 1) high r order)

pub value_of-toward : (side : Side) (key low high : ℕ) (x : Node) (near far : Tree) →
    IsOrdered low high (sided side x near far) → IsToward side key x.key →
    value_of key (items_of (sided side x near far)) ≡ value_of key (items_of near)
value_of-toward Left key low high x near far order way =
    value_of-front key (items_of near) (item_of x ∷ items_of far)
    (value_of-below key x.key high (item_of x ∷ items_of far) way (from_root high x far order.1))
value_of-toward Right key low high x near far order way =
    value_of-behind key low x.key (items_of far) (item_of x ∷ items_of near) (ascends low x.key far order.0)
    (omega arith) ∙ ap (λ b. cond b (Some x.value) (value_of key (items_of near)))
    (at_other key x.key (λ e. omega arith))

pub with_item-toward : (side : Side) (key value low high : ℕ) (x : Node) (near far u : Tree) →
    IsOrdered low high (sided side x near far) → IsToward side key x.key →
    items_of u ≡ with_item key value (items_of near) →
    items_of (sided side x u far) ≡ with_item key value (items_of (sided side x near far))
with_item-toward Left key value low high x near far u order way is =
    ap (λ xs. xs ++ item_of x ∷ items_of far) is ∙ sym
    (with_item-front key value x.key x.value (items_of near) (items_of far) way)
with_item-toward Right key value low high x near far u order way is =
    ap (λ xs. items_of far ++ item_of x ∷ xs) is ∙ ap (λ o. items_of far ++ match_ordering o
    ((key, value) ∷ item_of x ∷ items_of near) ((x.key, value) ∷ items_of near)
    (item_of x ∷ with_item key value (items_of near))) (sym (nat_cmp-greater key x.key way)) ∙ sym (with_item-behind key
    value low x.key (items_of far) (item_of x ∷ items_of near) (ascends low x.key far order.0) (omega arith))

-- the same where the value is to stay
pub with_item-toward_if : (replaces : Bool) (side : Side) (key value low high : ℕ) (x : Node) (near far u : Tree) →
    IsOrdered low high (sided side x near far) → IsToward side key x.key →
    items_of u ≡ (if replaces then with_item key value (items_of near) else items_of near) → items_of
    (sided side x u far) ≡
    (if replaces then with_item key value (items_of (sided side x near far)) else items_of (sided side x near far))
with_item-toward_if true side key value low high x near far u order way is =
    with_item-toward side key value low high x near far u order way is
with_item-toward_if false side key value low high x near far u order way is = items-near side x u near far is

pub without_item-toward : (side : Side) (key low high : ℕ) (x : Node) (near far u : Tree) →
    IsOrdered low high (sided side x near far) → IsToward side key x.key →
    items_of u ≡ without_item key (items_of near) →
    items_of (sided side x u far) ≡ without_item key (items_of (sided side x near far))
without_item-toward Left key low high x near far u order way is =
    ap (λ xs. xs ++ item_of x ∷ items_of far) is ∙ sym (without_item-front key (items_of near)
    (item_of x ∷ items_of far)
    (without_item-absent key (item_of x ∷ items_of far)
    (value_of-below key x.key high (item_of x ∷ items_of far) way (from_root high x far order.1))))
without_item-toward Right key low high x near far u order way is =
    ap (λ xs. items_of far ++ item_of x ∷ xs) is ∙ ap
    (λ b. items_of far ++ cond b (items_of near) (item_of x ∷ without_item key (items_of near)))
    (sym (at_other key x.key (λ e. omega arith))) ∙ sym (without_item-behind key low x.key (items_of far)
    (item_of x ∷ items_of near) (ascends low x.key far order.0) (omega arith))

-- ---- the root's own key

value_of-here : (key low : ℕ) (x : Node) (l r : Tree) → IsOrdered low x.key l → key ≡ x.key →
    value_of key (items_of (tree_of x l r)) ≡ Some x.value
value_of-here key low x l r order same =
    value_of-behind key low x.key (items_of l) (item_of x ∷ items_of r) (ascends low x.key l order) (omega arith) ∙ ap
    (λ b. cond b (Some x.value) (value_of key (items_of r))) (at_same key x.key same)

pub value_of-root : (side : Side) (key low high : ℕ) (x : Node) (near far : Tree) →
    IsOrdered low high (sided side x near far) → key ≡ x.key →
    value_of key (items_of (sided side x near far)) ≡ Some x.value
value_of-root Left key low high x near far order same = value_of-here key low x near far order.0 same
value_of-root Right key low high x near far order same = value_of-here key low x far near order.0 same

pub with_item-here : (key value low : ℕ) (x : Node) (l r : Tree) → IsOrdered low x.key l → key ≡ x.key →
    with_item key value (items_of (tree_of x l r)) ≡ items_of l ++ (x.key, value) ∷ items_of r
with_item-here key value low x l r order same =
    with_item-behind key value low x.key (items_of l) (item_of x ∷ items_of r) (ascends low x.key l order) (omega arith)
    ∙ ap (λ o. items_of l ++ match_ordering o ((key, value) ∷ item_of x ∷ items_of r) ((x.key, value) ∷ items_of r)
    (item_of x ∷ with_item key value (items_of r))) (nat_cmp-equal key x.key same)

pub without_item-here : (key low : ℕ) (x : Node) (l r : Tree) → IsOrdered low x.key l → key ≡ x.key →
    without_item key (items_of (tree_of x l r)) ≡ items_of l ++ items_of r
without_item-here key low x l r order same =
    without_item-behind key low x.key (items_of l) (item_of x ∷ items_of r) (ascends low x.key l order) (omega arith) ∙
    ap (λ b. items_of l ++ cond b (items_of r) (item_of x ∷ without_item key (items_of r))) (at_same key x.key same)

-- a root with no child on a side leaves the items on the other one
pub without_item-only : (side : Side) (key low high : ℕ) (x : Node) (far : Tree) →
    IsOrdered low high (sided side x leaf far) → key ≡ x.key →
    without_item key (items_of (sided side x leaf far)) ≡ items_of far
without_item-only Left key low high x far order same = without_item-here key low x leaf far order.0 same
without_item-only Right key low high x far order same =
    without_item-here key low x far leaf order.0 same ∙ append-nil (items_of far)
