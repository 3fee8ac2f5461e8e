-- What is put at the end of a queue, and what is taken from its front.
use Rattle.std.proofs.Common.{◌≡◌, ◌∙◌, ◌++◌, ℕ, suc, ◌+◌, ◌-◌, ◌<◌, ◌≤◌, List, [], ◌∷◌, ap, arith, cond, length, length-set, get_or-set_same, get_or-set_other, lt-ltb, sym, slice_set, inl, inr, nat_lt}
use Rattle.dstm_structures.specs.Circles.{next, behind, held_from}
use Rattle.dstm_structures.proofs.Circles.{held-more, held-length, held-same, next-within, behind-within}
use Rattle.dstm_model.specs.declared.value.Val.{Val}
use Rattle.dstm_model.specs.Map.{no_value, value_at}
use Rattle.dstm_structures.specs.Queues.{KeepsOthers, pair_of, within, ends_in, held_in, items_in}

-- ---- where a queue stands

pub start-within : (n : ℕ) (ends : ℕ × ℕ) → 0 < n → (within n ends).0 < n
start-within n ends some = grind arith

pub count-within : (n : ℕ) (ends : ℕ × ℕ) → (within n ends).1 ≤ n
count-within n ends = grind arith

first-of : (n a : ℕ) → a < n → cond (nat_lt a n) a 0 ≡ a
first-of n a here = ap (λ b. cond b a 0) (lt-ltb a n here)

count-of : (n b : ℕ) → b ≤ n → cond (nat_lt b n) b n ≡ b
count-of n b most = grind arith

pub within-same : (n a b : ℕ) → a < n → b ≤ n → within n (a, b) ≡ (a, b)
within-same n a b here most =
    ap (λ (x : ℕ). (x, cond (nat_lt b n) b n)) (first-of n a here) ∙ ap (λ (y : ℕ). (a, y)) (count-of n b most)

pub items-length : {T : Type 0} (found : Val → T) (first n : ℕ) (map : List Val) →
    length (items_in found first n map) ≡ (ends_in first n map).1
items-length found first n map = held-length n (held_in found first map) (ends_in first n map).0 (ends_in first n map).1

pub items-none : {T : Type 0} (found : Val → T) (first n : ℕ) (map : List Val) → (ends_in first n map).1 ≡ 0 →
    items_in found first n map ≡ []
items-none found first n map none =
    ap (held_from n (held_in found first map) (ends_in first n map).0) none

pub items-first : {T : Type 0} (found : Val → T) (first n : ℕ) (map : List Val) → 0 < (ends_in first n map).1 →
    (rest : List T) × (items_in found first n map ≡ held_in found first map (ends_in first n map).0 ∷ rest)
items-first found first n map some =
    let ends : ℕ × ℕ = ends_in first n map in
    let less : ends.1 ≡ suc (ends.1 - 1) = omega (arith, some) in (
      held_from n (held_in found first map) (next n ends.0) (ends.1 - 1),
      ap (held_from n (held_in found first map) ends.0) less,
    )

-- ---- what is set

module _ {T : Type 0} (found : Val → T) (first n : ℕ) (before : List Val) (room : first + 1 + n ≤ length before) where
  abbrev ends : ℕ × ℕ
  ends = ends_in first n before

  -- a value is put at the end
  pub items-more : (value : T) (kept pair : Val) → ends.1 < n → found kept ≡ value → pair_of pair ≡ (ends.0, ends.1 + 1) →
      items_in found first n (slice_set (slice_set before (first + 1 + behind n ends.0 ends.1) kept) first pair)
      ≡ items_in found first n before ++ (value ∷ [])
  items-more value kept pair free is counts =
      let at : ℕ = first + 1 + behind n ends.0 ends.1 in
      let mid : List Val = slice_set before at kept in
      let after : List Val = slice_set mid first pair in
      let start : ends.0 < n = start-within n (pair_of (value_at before first)) (omega (arith, free)) in
      let place : behind n ends.0 ends.1 < n = behind-within n ends.0 ends.1 start free in
      let size : length mid ≡ length before = length-set before at kept in
      let top : value_at after first ≡ pair = get_or-set_same mid first pair no_value (omega (arith, size, room)) in
      let more : ends.1 + 1 ≡ suc ends.1 = omega arith in
      let moved : ends_in first n after ≡ (ends.0, suc ends.1) =
      ap (λ (v : Val). within n (pair_of v)) top ∙ ap (within n) counts
      ∙ within-same n ends.0 (ends.1 + 1) start (omega (arith, free)) ∙ ap (λ (c : ℕ). (ends.0, c)) more in
      let here : held_in found first after (behind n ends.0 ends.1) ≡ value =
      ap found (get_or-set_other mid first at pair no_value (λ e. omega (arith, e))
      ∙ get_or-set_same before at kept no_value (omega (arith, room, place))) ∙ is in
      let others : (p : ℕ) → p < n → (p ≡ behind n ends.0 ends.1 → ⊥) →
      held_in found first after p ≡ held_in found first before p =
      λ p here apart. ap found (get_or-set_other mid first (first + 1 + p) pair no_value (λ e. omega (arith, e))
      ∙ get_or-set_other before at (first + 1 + p) kept no_value (λ e. apart (omega (arith, e)))) in
      ap (λ (e : ℕ × ℕ). held_from n (held_in found first after) e.0 e.1) moved
      ∙ held-more n (held_in found first before) (held_in found first after) ends.0 ends.1 value start free here others

  -- the first value is taken
  pub items-less : (pair : Val) → 0 < ends.1 → pair_of pair ≡ (next n ends.0, ends.1 - 1) →
      items_in found first n before ≡ held_in found first before ends.0 ∷ items_in found first n (slice_set before first pair)
  items-less pair some counts =
      let after : List Val = slice_set before first pair in
      let most : ends.1 ≤ n = count-within n (pair_of (value_at before first)) in
      let start : ends.0 < n = start-within n (pair_of (value_at before first)) (omega (arith, some, most)) in
      let top : value_at after first ≡ pair = get_or-set_same before first pair no_value (omega (arith, room)) in
      let less : ends.1 ≡ suc (ends.1 - 1) = omega (arith, some) in
      let behind_it : next n ends.0 < n = next-within n ends.0 start in
      let moved : ends_in first n after ≡ (next n ends.0, ends.1 - 1) =
      ap (λ (v : Val). within n (pair_of v)) top ∙ ap (within n) counts
      ∙ within-same n (next n ends.0) (ends.1 - 1) behind_it (omega (arith, most)) in
      let others : (p : ℕ) → p < n → held_in found first after p ≡ held_in found first before p =
      λ p here. ap found (get_or-set_other before first (first + 1 + p) pair no_value (λ e. omega (arith, e))) in
      let rest : held_from n (held_in found first before) (next n ends.0) (ends.1 - 1) ≡ items_in found first n after =
      sym (ap (λ (e : ℕ × ℕ). held_from n (held_in found first after) e.0 e.1) moved
      ∙ held-same n (held_in found first before) (held_in found first after) (next n ends.0) (ends.1 - 1) behind_it others) in
      ap (held_from n (held_in found first before) ends.0) less
      ∙ ap (λ (xs : List T). held_in found first before ends.0 ∷ xs) rest

  -- what is set in the queue's objects alone
  pub others-twice : (at : ℕ) (kept pair : Val) → at < n →
      KeepsOthers first n before (slice_set (slice_set before (first + 1 + at) kept) first pair)
  others-twice at kept pair here o (inl low) =
      get_or-set_other (slice_set before (first + 1 + at) kept) first o pair no_value (λ e. omega (arith, e, low))
      ∙ get_or-set_other before (first + 1 + at) o kept no_value (λ e. omega (arith, e, low))
  others-twice at kept pair here o (inr high) =
      get_or-set_other (slice_set before (first + 1 + at) kept) first o pair no_value (λ e. omega (arith, e, high))
      ∙ get_or-set_other before (first + 1 + at) o kept no_value (λ e. omega (arith, e, high, here))

  pub others-once : (pair : Val) → KeepsOthers first n before (slice_set before first pair)
  others-once pair o (inl low) = get_or-set_other before first o pair no_value (λ e. omega (arith, e, low))
  others-once pair o (inr high) = get_or-set_other before first o pair no_value (λ e. omega (arith, e, high))
