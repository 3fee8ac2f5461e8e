-- Changes of three objects of the list: what stays of the chains, and what is linked anew.
use Rattle.std.proofs.Common.{◌≡◌, ◌≢◌, ℕ, ◌<◌, ◌≤◌, List, [], ◌∷◌, ◌++◌, length, slice_set, eqb, arith, sym, ◌∙◌}
use Rattle.std.specs.Prelude.{IsPermutation}
use Rattle.std.specs.List.{AllByRecursion as Each, IsDistinct}
use Rattle.std.proofs.lemmas.List.{length-set, get_or-set_same, get_or-set_other}
use Rattle.std.proofs.lemmas.Map.Keys.{IsDistinct-tail}
use Rattle.dstm_model.specs.declared.value.Val.{Val}
use Rattle.dstm_model.specs.Map.{value_at, no_value}
use Rattle.dstm_model.specs.Objects.{free_object, node_object}
use Rattle.dstm_list.specs.List.{Cell, IsChain, IsFreeChain, numbers_of, first_of, node, nodes_to}
use Rattle.dstm_list.specs.Place.{link_after, key_after}
use Rattle.dstm_list.proofs.Numbers.{IsNumber, each-map, each-zip, each-left, each-right, within, apart, others}

-- a map in which three objects have new values
pub record Changed (values after : List Val) (x y z : ℕ) (u v w : Val) : Type 0 where
  pub first_is : value_at after x ≡ u
  pub second_is : value_at after y ≡ v
  pub third_is : value_at after z ≡ w
  pub same : (p : ℕ) → p ≢ x → p ≢ y → p ≢ z → value_at after p ≡ value_at values p

pub Changed-of_sets : (values : List Val) (x y z : ℕ) (u v w : Val) → x < length values → y < length values →
    z < length values → x ≢ y → x ≢ z → y ≢ z →
    Changed values (slice_set (slice_set (slice_set values x u) y v) z w) x y z u v w
Changed-of_sets values x y z u v w in_x in_y in_z xy xz yz =
    let one = slice_set values x u in
    let two = slice_set one y v in
    let size_one = length-set values x u in
    let size_two = length-set one y v in
    record {
      first_is = get_or-set_other two z x w no_value xz ∙ get_or-set_other one y x v no_value xy
          ∙ get_or-set_same values x u no_value in_x;
      second_is = get_or-set_other two z y w no_value yz
          ∙ get_or-set_same one y v no_value (omega (arith, in_y, size_one));
      third_is = get_or-set_same two z w no_value (omega (arith, in_z, size_one, size_two));
      same = λ p px py pz. get_or-set_other two z p w no_value pz ∙ get_or-set_other one y p v no_value py
          ∙ get_or-set_other values x p u no_value px;
    }

-- ---- chains whose objects are unchanged

abbrev pub Same : ℕ → List Val → List Val → List ℕ → Type 0
Same begin values after is =
    Each (λ i. value_at after (node_object begin i) ≡ value_at values (node_object begin i)) is

pub IsChain-same : (begin : ℕ) (values after : List Val) (cells : List Cell) →
    Same begin values after (numbers_of cells) →
    IsChain begin values cells → IsChain begin after cells
IsChain-same begin values after [] same chain = tt
IsChain-same begin values after (c ∷ cs) same chain =
    (same.0 ∙ chain.0, IsChain-same begin values after cs same.1 chain.1)

pub IsFreeChain-same : (begin : ℕ) (values after : List Val) (free : List ℕ) → Same begin values after free →
    IsFreeChain begin values free → IsFreeChain begin after free
IsFreeChain-same begin values after [] same chain = tt
IsFreeChain-same begin values after (i ∷ is) same chain =
    (same.0 ∙ chain.0, IsFreeChain-same begin values after is same.1 chain.1)

-- an object, and those of some cells but for the last, are unchanged
abbrev pub SameBefore : ℕ → List Val → List Val → ℕ → List Cell → Type 0
SameBefore begin values after object [] = Unit {0}
SameBefore begin values after object (c ∷ cs) =
    (value_at after object ≡ value_at values object)
    × SameBefore begin values after (node_object begin c.number) cs

-- the cells behind the link, and others after it
pub relinked : (begin : ℕ) (values after : List Val) (behind ahead new : List Cell) (object key : ℕ) →
    value_at values object ≡ node key (first_of (numbers_of (behind ++ ahead))) →
    IsChain begin values (behind ++ ahead) → SameBefore begin values after object behind →
    value_at after (link_after begin object behind) ≡ node (key_after key behind) (first_of (numbers_of new)) →
    IsChain begin after new →
    (value_at after object ≡ node key (first_of (numbers_of (behind ++ new))))
    × IsChain begin after (behind ++ new)
relinked begin values after [] ahead new object key at chain same link rest = (link, rest)
relinked begin values after (c ∷ cs) ahead new object key at chain same link rest =
    let inner =
    relinked begin values after cs ahead new
    (node_object begin c.number) c.key chain.0 chain.1 same.1 link rest in
    (same.0 ∙ at, inner)

-- ---- objects apart

abbrev pub Avoids : ℕ → ℕ → List ℕ → Type 0
Avoids begin object is = Each (λ i. node_object begin i ≢ object) is

pub avoids-node : (begin i : ℕ) (is : List ℕ) → Each (λ j. j ≢ i) is → Avoids begin (node_object begin i) is
avoids-node begin i is each =
    each-map (λ j. j ≢ i) (λ j. node_object begin j ≢ node_object begin i)
    (λ j h e. h (omega (arith, e))) is each

-- what holds of an object and of those of some cells holds of the link after them
pub at_link : (P : ℕ → Type 0) (begin object : ℕ) (cells : List Cell) → P object →
    Each (λ i. P (node_object begin i)) (numbers_of cells) → P (link_after begin object cells)
at_link P begin object [] here each = here
at_link P begin object (c ∷ cs) here each = at_link P begin (node_object begin c.number) cs each.0 each.1

avoids_link : (begin object : ℕ) (behind : List Cell) (is : List ℕ) →
    Avoids begin object (numbers_of behind ++ is) →
    IsDistinct eqb (numbers_of behind ++ is) → Avoids begin (link_after begin object behind) is
avoids_link begin object [] is each distinct = each
avoids_link begin object (c ∷ cs) is each distinct =
    avoids_link begin (node_object begin c.number) cs is
    (avoids-node begin c.number (numbers_of cs ++ is) (others c.number (numbers_of cs ++ is) distinct))
    (IsDistinct-tail eqb c.number (numbers_of cs ++ is) distinct)

before_link : (begin object : ℕ) (c : Cell) (cs : List Cell) → Avoids begin object (numbers_of (c ∷ cs)) →
    object ≢ link_after begin (node_object begin c.number) cs
before_link begin object c [] each e = each.0 (sym e)
before_link begin object c (d ∷ ds) each e = before_link begin object d ds each.1 e

same_before : (begin : ℕ) (values after : List Val) (x y object : ℕ) (cells : List Cell) (is : List ℕ) →
    ((p : ℕ) → p ≢ x → p ≢ y → p ≢ link_after begin object cells → value_at after p ≡ value_at values p) →
    object ≢ x → object ≢ y →
    Each (λ i. (node_object begin i ≢ x) × (node_object begin i ≢ y)) (numbers_of cells) →
    Avoids begin object (numbers_of cells ++ is) → IsDistinct eqb (numbers_of cells ++ is) →
    SameBefore begin values after object cells
same_before begin values after x y object [] is same ox oy each avoids distinct = tt
same_before begin values after x y object (c ∷ cs) is same ox oy each avoids distinct =
    let inner = node_object begin c.number in
    let inner_avoids =
    avoids-node begin c.number (numbers_of cs ++ is) (others c.number (numbers_of cs ++ is) distinct) in
    let last =
    before_link begin object c cs
    (each-left (λ i. node_object begin i ≢ object) (numbers_of (c ∷ cs)) is avoids) in (
      same object ox oy last,
      same_before begin values after x y inner cs is same each.0.0 each.0.1 each.1 inner_avoids
          (IsDistinct-tail eqb c.number (numbers_of cs ++ is) distinct),
    )

-- ---- a node that moves from one chain to the other

-- what the other nodes keep when a node's object, the head of the free chain and the link change
pub record Kept (begin : ℕ) (values after : List Val) (behind ahead : List Cell) (free : List ℕ) : Type 0 where
  pub before : SameBefore begin values after begin behind
  pub ahead_same : Same begin values after (numbers_of ahead)
  pub free_same : Same begin values after free

-- the three objects differ
pub record Apart (x y z : ℕ) : Type 0 where
  pub first_second : x ≢ y
  pub first_third : x ≢ z
  pub second_third : y ≢ z

avoids_head : (n begin object : ℕ) (is : List ℕ) → object ≤ free_object begin → Each (IsNumber n) is →
    Avoids begin object is
avoids_head n begin object is low each =
    each-map (IsNumber n) (λ i. node_object begin i ≢ object) (λ i h e. omega (arith, h.0, e, low)) is each

pub objects_apart : (n begin i : ℕ) (behind ahead : List Cell) (free : List ℕ) →
    IsPermutation (nodes_to n) (i ∷ (numbers_of behind ++ (numbers_of ahead ++ free))) →
    Apart (node_object begin i) (free_object begin) (link_after begin begin behind)
objects_apart n begin i behind ahead free once =
    let rest = numbers_of ahead ++ free in
    let numbers = numbers_of behind ++ rest in
    let in_range = within n (i ∷ numbers) once in
    let behind_range = each-left (IsNumber n) (numbers_of behind) rest in_range.1 in
    let x = node_object begin i in
    let y = free_object begin in
    let other = each-left (λ j. node_object begin j ≢ x) (numbers_of behind) rest
    (avoids-node begin i numbers (others i numbers (apart n (i ∷ numbers) once))) in
    let link_x : link_after begin begin behind ≢ x =
    at_link (λ p. p ≢ x) begin begin behind (λ e. omega (arith, e)) other in
    let link_y : link_after begin begin behind ≢ y =
    at_link (λ p. p ≢ y) begin begin behind (λ e. omega (arith, e))
    (avoids_head n begin y (numbers_of behind) (omega arith) behind_range) in
    record {
      first_second = λ e. omega (arith, e, in_range.0.0);
      first_third = λ e. link_x (sym e);
      second_third = λ e. link_y (sym e);
    }

pub Kept-of_same : (n begin i : ℕ) (values after : List Val) (behind ahead : List Cell) (free : List ℕ) →
    IsPermutation (nodes_to n) (i ∷ (numbers_of behind ++ (numbers_of ahead ++ free))) →
    ((p : ℕ) → p ≢ node_object begin i → p ≢ free_object begin → p ≢ link_after begin begin behind →
    value_at after p ≡ value_at values p) →
    Kept begin values after behind ahead free
Kept-of_same n begin i values after behind ahead free once same =
    let x = node_object begin i in
    let y = free_object begin in
    let z = link_after begin begin behind in
    let rest = numbers_of ahead ++ free in
    let numbers = numbers_of behind ++ rest in
    let distinct = apart n (i ∷ numbers) once in
    let in_range = (within n (i ∷ numbers) once).1 in
    let not_x = avoids-node begin i numbers (others i numbers distinct) in
    let not_y = avoids_head n begin y numbers (omega arith) in_range in
    let not_begin = avoids_head n begin begin numbers (omega arith) in_range in
    let tail = IsDistinct-tail eqb i numbers distinct in
    let not_z = avoids_link begin begin behind rest not_begin tail in
    let Px = λ (j : ℕ). node_object begin j ≢ x in
    let Py = λ (j : ℕ). node_object begin j ≢ y in
    let Pz = λ (j : ℕ). node_object begin j ≢ z in
    let Pxy = λ (j : ℕ). Px j × Py j in
    let not_xy = each-zip Px Py numbers not_x not_y in
    let clear = each-zip Pxy Pz rest (each-right Pxy (numbers_of behind) rest not_xy) not_z in
    let kept =
    each-map (λ j. Pxy j × Pz j)
    (λ j. value_at after (node_object begin j) ≡ value_at values (node_object begin j))
    (λ j h. same (node_object begin j) h.0.0 h.0.1 h.1) rest clear in
    let Keeps = λ (j : ℕ). value_at after (node_object begin j) ≡ value_at values (node_object begin j) in
    record {
      before = same_before begin values after x y begin behind rest same (λ e. omega (arith, e))
          (λ e. omega (arith, e))
          (each-left Pxy (numbers_of behind) rest not_xy) not_begin tail;
      ahead_same = each-left Keeps (numbers_of ahead) free kept;
      free_same = each-right Keeps (numbers_of ahead) free kept;
    }
