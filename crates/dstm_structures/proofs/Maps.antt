-- What a map has for each key, once a place of it was set.
use Rattle.std.proofs.Common.{◌≡◌, ◌∙◌, ℕ, ◌+◌, ◌*◌, ◌/◌, ◌%◌, ◌^◌, ◌<◌, ◌≤◌, true, false, List, ap, arith, cond, refl, sym, nat_lt}
use Rattle.std.proofs.lemmas.Nat.{mod_below}
use Rattle.std.specs.Prelude.{Option, None, Some}
use Rattle.dstm_model.specs.declared.value.Val.{Val}
use Rattle.dstm_structures.specs.Circles.{behind}
use Rattle.dstm_structures.specs.Places.{AreTaken, find, is_free, is_key}
use Rattle.dstm_structures.specs.Maps.{at_place, home_in, item_in, keys_in, place_in, reach_in, values_in}
use Rattle.dstm_structures.proofs.Places.{behind-below, find-further, find-holds, find-none, put-other, put-there, some_is}

pub home-within : (n : ℕ) → 0 < n → (key : ℕ) → home_in n key < n
home-within n some key = mod_below (key * 11400714819323198485 % 2 ^ 64 / 4294967296) n some

pub reach-most : (first n : ℕ) (map : List Val) (h : ℕ) → reach_in first n map h ≤ n
reach-most first n map h = grind arith

-- a key that is found stands there
pub place-holds : (first n : ℕ) → 0 < n → (map : List Val) (key at : ℕ) → place_in first n map key ≡ Some at →
    (keys_in first map at ≡ Some key) × (at < n)
place-holds first n some map key at is =
    let most : reach_in first n map (home_in n key) ≤ n = reach-most first n map (home_in n key) in
    find-holds n (keys_in first map) key (home_in n key) 0 (reach_in first n map (home_in n key)) at
    (home-within n some key) (omega (arith, most)) is

module _ {V : Type 0} (found : Val → V) (first n : ℕ) (some : 0 < n) (before after : List Val) where
  -- the same places, and at them the same values
  pub item-same : (key : ℕ) → place_in first n after key ≡ place_in first n before key →
      ((q : ℕ) → place_in first n before key ≡ Some q →
      values_in found first after q ≡ values_in found first before q) →
      item_in found first n after key ≡ item_in found first n before key
  item-same key same values = ap (at_place (values_in found first after)) same ∙ by (place_in first n before key) values
    where
      by : (o : Option ℕ) → ((q : ℕ) → o ≡ Some q → values_in found first after q ≡ values_in found first before q) →
          at_place (values_in found first after) o ≡ at_place (values_in found first before) o
      by None values = refl
      by (Some q) values = ap Some (values q refl)

  -- where a key stands where it stood, it has its place
  pub place-kept : (key : ℕ) →
      ((q : ℕ) → q < n → is_key key (keys_in first after q) ≡ is_key key (keys_in first before q)) →
      ((h : ℕ) → h < n → reach_in first n after h ≡ reach_in first n before h) →
      place_in first n after key ≡ place_in first n before key
  place-kept key keys reaches =
      let h : ℕ = home_in n key in
      let home : h < n = home-within n some key in
      let most : reach_in first n before h ≤ n = reach-most first n before h in
      ap (find n (keys_in first after) key h 0) (reaches h home)
      ∙ find-further n (keys_in first before) (keys_in first after) key h 0 (reach_in first n before h)
      (reach_in first n before h) (omega arith)
      (λ j low near. keys (behind n h j) (behind-below n h j home (omega (arith, near, most))))
      (λ j from until. absurd (omega (arith, from, until)))

  -- a key got another value
  pub replaced-here : (key gap : ℕ) (value : V) → place_in first n before key ≡ Some gap →
      place_in first n after key ≡ place_in first n before key → values_in found first after gap ≡ value →
      item_in found first n after key ≡ Some value
  replaced-here key gap value at same is = ap (at_place (values_in found first after)) (same ∙ at) ∙ ap Some is

  pub replaced-other : (key gap k : ℕ) → (k ≡ key → ⊥) → place_in first n before key ≡ Some gap →
      place_in first n after k ≡ place_in first n before k →
      ((q : ℕ) → q < n → (q ≡ gap → ⊥) → values_in found first after q ≡ values_in found first before q) →
      item_in found first n after k ≡ item_in found first n before k
  replaced-other key gap k apart at same values =
      item-same k same (λ q there.
      let holds = place-holds first n some before k q there in
      values q holds.1 (λ e. apart (some_is k key
      (sym holds.0 ∙ ap (keys_in first before) e ∙ (place-holds first n some before key gap at).0))))

  -- a key was added so far behind its home
  module _ (key i : ℕ) (value : V) (few : i < n) (absent : place_in first n before key ≡ None)
      (free : is_free (home_in n) (home_in n key) (cond (nat_lt i (reach_in first n before (home_in n key))) false true)
      (keys_in first before (behind n (home_in n key) i)) ≡ true)
      (taken : AreTaken n (home_in n) (keys_in first before) (home_in n key)
      (reach_in first n before (home_in n key)) i)
      (there : keys_in first after (behind n (home_in n key) i) ≡ Some key)
      (others : (q : ℕ) → q < n → (q ≡ behind n (home_in n key) i → ⊥) → keys_in first after q ≡ keys_in first before q)
      (far : reach_in first n after (home_in n key)
      ≡ cond (nat_lt (reach_in first n before (home_in n key)) (i + 1)) (i + 1) (reach_in first n before (home_in n key)))
      (as_far : (h : ℕ) → h < n → (h ≡ home_in n key → ⊥) → reach_in first n after h ≡ reach_in first n before h)
      (is : values_in found first after (behind n (home_in n key) i) ≡ value)
      (values : (q : ℕ) → q < n → (q ≡ behind n (home_in n key) i → ⊥) →
      values_in found first after q ≡ values_in found first before q) where
    pub added-there : place_in first n after key ≡ Some (behind n (home_in n key) i)
    added-there =
        put-there n (home_in n) (keys_in first before) (keys_in first after) (reach_in first n before)
        (reach_in first n after) key i (home-within n some) (reach-most first n before) few absent free taken there others far
        as_far

    pub added-here : item_in found first n after key ≡ Some value
    added-here = ap (at_place (values_in found first after)) added-there ∙ ap Some is

    pub added-apart : (k : ℕ) → (k ≡ key → ⊥) → place_in first n after k ≡ place_in first n before k
    added-apart k apart =
        put-other n (home_in n) (keys_in first before) (keys_in first after) (reach_in first n before)
        (reach_in first n after) key i (home-within n some) (reach-most first n before) few absent free taken there others
        far as_far k apart

    pub added-other : (k : ℕ) → (k ≡ key → ⊥) → item_in found first n after k ≡ item_in found first n before k
    added-other k apart =
        item-same k (added-apart k apart) (λ q at.
        let holds = place-holds first n some after k q (added-apart k apart ∙ at) in
        values q holds.1 (λ e. apart (some_is k key (sym holds.0 ∙ ap (keys_in first after) e ∙ there))))

  -- a key was taken out of each place at which it is looked for
  pub removed-here : (key : ℕ) →
      ((j : ℕ) → j < reach_in first n before (home_in n key) →
      is_key key (keys_in first after (behind n (home_in n key) j)) ≡ false) →
      reach_in first n after (home_in n key) ≡ reach_in first n before (home_in n key) →
      item_in found first n after key ≡ None
  removed-here key gone reach =
      ap (at_place (values_in found first after))
      (find-none n (keys_in first after) key (home_in n key) 0 (reach_in first n after (home_in n key))
      (λ j low near. gone j (omega (arith, near, reach))))
