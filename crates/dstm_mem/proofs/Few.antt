-- Lists that name each object once are no longer than there are objects.
use Rattle.std.proofs.Common.{◌≡◌, ◌≢◌, ◌⊎◌, ℕ, ◌+◌, ◌<◌, ◌≤◌, List, [], ◌∷◌, eqb, length, map, refl, sym, subst, true, ◌∙◌, inl, inr, arith}
use Prim.Native.Nat.{suc}
use Rattle.std.specs.Prelude.{None, IsSome, Contains, slice_index_or}
use Rattle.std.specs.List.{list_any}
use Rattle.std.proofs.lemmas.Bool.{cases_eq, eqb-true, ne_eqb, or_cases}
use Rattle.std.proofs.lemmas.List.{get_or-map, get_or_default, length-map}
use Rattle.std.proofs.lemmas.Map.Keys.{IsDistinct-from_apart}
use Rattle.std.proofs.lemmas.Map.Steps.{length-le_from_distinct_below}
use Rattle.std.proofs.lemmas.List.Elements.{Contains-append_cases, Contains-append_right, Contains-push_cases}
use Rattle.dstm_model.specs.declared.value.Val.{Val}
use Rattle.dstm_model.specs.Map.{NamesOnce}
use Rattle.dstm_mem.specs.Memory.{value_in}
use Rattle.dstm_mem.proofs.Pairs.{value_in-same, value_in-other, value_in-unnamed}

-- an element is the first or one of the others
pub first_or_other : (x : ℕ) (xs : List ℕ) (y : ℕ) → Contains (x ∷ xs) y → (x ≡ y) ⊎ Contains xs y
first_or_other x xs y has = by (Contains-append_cases (x ∷ []) xs y has)
  where
    alone : Contains [] y ⊎ (x ≡ y) → x ≡ y
    alone (inl none) = absurd (let k = none.1 in omega arith)
    alone (inr same) = same

    by : Contains (x ∷ []) y ⊎ Contains xs y → (x ≡ y) ⊎ Contains xs y
    by (inl first) = inl (alone (Contains-push_cases [] x y first))
    by (inr other) = inr other

-- all but one of some numbers
record Others (numbers : List ℕ) (one : ℕ) : Type 0 where
  others : List ℕ
  shorter : length numbers ≡ length others + 1
  all : (n : ℕ) → n ≢ one → Contains numbers n → Contains others n

others_of : (numbers : List ℕ) (one : ℕ) → Contains numbers one → Others numbers one
others_of [] one has = absurd (let k = has.1 in omega arith)
others_of (x ∷ xs) one has = by (cases_eq x one) (others_of xs one)
  where
    by : (x ≡ one) ⊎ (x ≡ one → ⊥) → (Contains xs one → Others xs one) → Others (x ∷ xs) one
    by (inl same) fewer = record {
      others = xs;
      shorter = omega arith;
      all = λ n other is. elim (first_or_other x xs n is) [
        | inl first ↦ absurd (other (sym first ∙ same))
        | inr later ↦ later
      ];
    }
    by (inr differs) fewer =
        let rest : Others xs one = fewer (elim (first_or_other x xs one has) [
          | inl first ↦ absurd (differs first)
          | inr later ↦ later
        ]) in
        record {
          others = x ∷ rest.others;
          shorter = let s = rest.shorter in omega arith;
          all = λ n other is. elim (first_or_other x xs n is) [
            | inl first ↦ (0, omega arith, first)
            | inr later ↦ Contains-append_right (x ∷ []) rest.others n (rest.all n other later)
          ];
        }

-- where each object that is named is one of some objects, there are no more pairs than objects
pub named_few : (n : ℕ) (pairs : List (ℕ × Val)) (objects : List ℕ) → NamesOnce n pairs →
    ((o : ℕ) → IsSome (value_in pairs o) → Contains objects o) → length pairs ≤ length objects
named_few n [] objects once each = omega arith
named_few n (p ∷ ps) objects once each =
    let first : Contains objects p.0 = each p.0 (subst IsSome (sym (value_in-same p ps p.0 refl)) refl) in
    let rest = others_of objects p.0 first in
    let fewer : length ps ≤ length rest.others = named_few n ps rest.others once.2 (λ o held.
    let other : o ≢ p.0 = λ same.
    let none = value_in-unnamed ps p.0 once.1 in
    let some : IsSome (value_in ps p.0) = subst (λ q. IsSome (value_in ps q)) same held in
    absurd (let no : IsSome {T = Val} None = subst IsSome none some in cc) in
    rest.all o other (each o (subst IsSome (sym (value_in-other p ps o (λ e. other (sym e)))) held))) in
    let s = rest.shorter in omega arith

-- numbers below a limit that differ are no more than the limit
few_numbers : (numbers : List ℕ) (n : ℕ) → ((i : ℕ) → i < length numbers → slice_index_or numbers i 0 < n) →
    ((i j : ℕ) → i < j → j < length numbers → slice_index_or numbers i 0 ≢ slice_index_or numbers j 0) →
    length numbers ≤ n
few_numbers numbers n below apart =
    length-le_from_distinct_below numbers n
    (IsDistinct-from_apart eqb numbers (λ i j d lower lt. ne_eqb _ _ (λ same. apart i j lower lt
    (get_or_default numbers i 0 d (omega arith) ∙ same ∙ get_or_default numbers j d 0 lt))))
    (λ q. has_below numbers q below)
  where
    has_below : (ks : List ℕ) (q : ℕ) → ((i : ℕ) → i < length ks → slice_index_or ks i 0 < n) →
        list_any (eqb q) ks ≡ true → q < n
    has_below [] q below has = absurd (cc)
    has_below (k ∷ ks) q below has =
        by (has_below ks q (λ i lt. below (suc i) (omega arith))) (or_cases (eqb q k) (list_any (eqb q) ks) has)
      where
        by : (list_any (eqb q) ks ≡ true → q < n) → (eqb q k ≡ true) ⊎ (list_any (eqb q) ks ≡ true) → q < n
        by ih (inl here) =
            let same = eqb-true q k here in let first : k < n = below 0 (omega arith) in omega arith
        by ih (inr later) = ih later

-- so there are no more named things than names
pub few_named : {A : Type 0} (name : A → ℕ) (d : A) (n : ℕ) (xs : List A) →
    ((i : ℕ) → i < length xs → name (slice_index_or xs i d) < n) →
    ((i j : ℕ) → i < j → j < length xs → name (slice_index_or xs i d) ≢ name (slice_index_or xs j d)) → length xs ≤ n
few_named {A = A} name d n xs below apart =
    subst (λ k. k ≤ n) long
    (few_numbers (map name xs) n
    (λ i lt. let in_list : i < length xs = omega (arith, long) in
    subst (λ k. k < n) (sym (at i in_list)) (below i in_list))
    (λ i j lower lt same. let in_list : j < length xs = omega (arith, long) in
    apart i j lower in_list (sym (at i (omega arith)) ∙ same ∙ at j in_list)))
  where
    long : length (map name xs) ≡ length xs
    long = length-map xs name

    at : (i : ℕ) → i < length xs → slice_index_or (map name xs) i 0 ≡ name (slice_index_or xs i d)
    at i lt = get_or-map name xs i d 0 lt
