-- The numbers of the nodes on the two chains: each is in range, no two are the same, and they are as many
-- as there are nodes.
use Rattle.std.proofs.Common.{◌≡◌, ◌≢◌, ℕ, zero, suc, ◌<◌, ◌≤◌, List, [], ◌∷◌, ◌++◌, length, false, eqb, arith, refl}
use Rattle.std.proofs.Common.{sym, ◌∙◌, ap, subst, inl, inr}
use Rattle.std.specs.Prelude.{IsPermutation}
use Rattle.std.specs.List.{AllByRecursion as Each, IsDistinct}
use Rattle.std.proofs.lemmas.Bool.{cases_eq, ne_eqb, eq-eqb, eqb-false}
use Rattle.std.proofs.lemmas.List.{map-append, append_assoc}
use Rattle.std.proofs.lemmas.List.Elements.{All-from_recursion, recursion_from_All}
use Rattle.std.proofs.lemmas.List.Sorted.{IsPermutation-middle, length_permutation, All-permutation}
use Rattle.std.proofs.lemmas.Map.Keys.{IsDistinct-cons, IsDistinct-from_apart, IsDistinct-head}
use Rattle.std.proofs.lemmas.Map.Keys.{IsDistinct-IsPermutation}
use Rattle.dstm_list.specs.List.{Cell, numbers_of, nodes_to}

abbrev pub IsNumber : ℕ → ℕ → Type 0
IsNumber n i = (0 < i) × (i ≤ n)

pub each-map : (P Q : ℕ → Type 0) → ((i : ℕ) → P i → Q i) → (is : List ℕ) → Each P is → Each Q is
each-map P Q f [] each = tt
each-map P Q f (i ∷ is) each = (f i each.0, each-map P Q f is each.1)

pub each-zip : (P Q : ℕ → Type 0) (is : List ℕ) → Each P is → Each Q is → Each (λ i. P i × Q i) is
each-zip P Q [] ps qs = tt
each-zip P Q (i ∷ is) ps qs = ((ps.0, qs.0), each-zip P Q is ps.1 qs.1)

pub each-left : (P : ℕ → Type 0) (is js : List ℕ) → Each P (is ++ js) → Each P is
each-left P [] js each = tt
each-left P (i ∷ is) js each = (each.0, each-left P is js each.1)

pub each-right : (P : ℕ → Type 0) (is js : List ℕ) → Each P (is ++ js) → Each P js
each-right P [] js each = each
each-right P (i ∷ is) js each = each-right P is js each.1

nodes_within : (n m : ℕ) → n ≤ m → Each (IsNumber m) (nodes_to n)
nodes_within zero m h = tt
nodes_within (suc n) m h = ((omega arith, omega arith), nodes_within n m (omega arith))

nodes_apart : (n : ℕ) → IsDistinct eqb (nodes_to n)
nodes_apart zero = IsDistinct-from_apart eqb [] (λ i j d _ below. absurd (omega (arith, below)))
nodes_apart (suc n) =
    IsDistinct-cons eqb (suc n) (nodes_to n)
    (each-map (IsNumber n) (λ i. eqb (suc n) i ≡ false) (λ i h. ne_eqb (suc n) i (λ e. omega (arith, e, h.1)))
    (nodes_to n) (nodes_within n n (omega arith)))
    (nodes_apart n)

length-nodes_to : (n : ℕ) → length (nodes_to n) ≡ n
length-nodes_to zero = refl
length-nodes_to (suc n) = ap suc (length-nodes_to n)

eqb-flip : (x y : ℕ) → eqb x y ≡ eqb y x
eqb-flip x y =
    elim (cases_eq x y) [
      | inl e ↦ eq-eqb x y e ∙ sym (eq-eqb y x (sym e))
      | inr other ↦ ne_eqb x y other ∙ sym (ne_eqb y x (λ e. other (sym e)))
    ]

-- ---- all numbers, in any order

pub within : (n : ℕ) (is : List ℕ) → IsPermutation (nodes_to n) is → Each (IsNumber n) is
within n is once =
    recursion_from_All (IsNumber n) is
    (All-permutation (IsNumber n) (nodes_to n) is once
    (All-from_recursion (IsNumber n) (nodes_to n) (nodes_within n n (omega arith))))

pub apart : (n : ℕ) (is : List ℕ) → IsPermutation (nodes_to n) is → IsDistinct eqb is
apart n is once = IsDistinct-IsPermutation eqb eqb-flip (nodes_to n) is once (nodes_apart n)

pub as_many : (n : ℕ) (is : List ℕ) → IsPermutation (nodes_to n) is → length is ≡ n
as_many n is once = length_permutation (nodes_to n) is once ∙ length-nodes_to n

pub others : (i : ℕ) (is : List ℕ) → IsDistinct eqb (i ∷ is) → Each (λ j. j ≢ i) is
others i is distinct =
    each-map (λ j. eqb i j ≡ false) (λ j. j ≢ i) (λ j h e. eqb-false i j h (sym e)) is
    (IsDistinct-head eqb i is distinct)

-- ---- a node that moves from one chain to the other

pub split-used : (behind : List Cell) (c : Cell) (ahead : List Cell) (free : List ℕ) →
    IsPermutation (numbers_of (behind ++ c ∷ ahead) ++ free)
    (c.number ∷ (numbers_of behind ++ (numbers_of ahead ++ free)))
split-used behind c ahead free =
    let joined : numbers_of (behind ++ c ∷ ahead) ++ free ≡ numbers_of behind ++ c.number ∷
    (numbers_of ahead ++ free) =
    ap (λ is. is ++ free) (map-append (λ (d : Cell). d.number) behind (c ∷ ahead))
    ∙ append_assoc (numbers_of behind) (c.number ∷ numbers_of ahead) free in
    subst (λ is. IsPermutation is (c.number ∷ (numbers_of behind ++ (numbers_of ahead ++ free)))) (sym joined)
    (IsPermutation-middle (numbers_of behind) c.number (numbers_of ahead ++ free))

pub split-free : (behind ahead : List Cell) (i : ℕ) (free : List ℕ) →
    IsPermutation (numbers_of (behind ++ ahead) ++ i ∷ free)
    (i ∷ (numbers_of behind ++ (numbers_of ahead ++ free)))
split-free behind ahead i free =
    let joined : numbers_of (behind ++ ahead) ++ free ≡ numbers_of behind ++ (numbers_of ahead ++ free) =
    ap (λ is. is ++ free) (map-append (λ (d : Cell). d.number) behind ahead)
    ∙ append_assoc (numbers_of behind) (numbers_of ahead) free in
    subst (λ is. IsPermutation (numbers_of (behind ++ ahead) ++ i ∷ free) (i ∷ is)) joined
    (IsPermutation-middle (numbers_of (behind ++ ahead)) i free)
