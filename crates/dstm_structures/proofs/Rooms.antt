-- A map of whose places none is wasted and each holds a key has as many keys as places.
use Rattle.std.proofs.Common.{◌≡◌, ◌≢◌, ◌∙◌, ◌⊎◌, inl, inr, ℕ, zero, suc, ◌<◌, ◌≤◌, true, false, List, [], ◌∷◌, ap, arith, get_or, length, refl, subst, sym}
use Rattle.std.specs.Prelude.{AllPairs, Contains, Option, None, Some, is_some}
use Rattle.std.proofs.lemmas.Bool.{cases_eq}
use Rattle.dstm_model.specs.declared.value.Val.{Val}
use Rattle.dstm_structures.specs.Items.{Counts}
use Rattle.dstm_structures.specs.Maps.{HasNoRoom, WastesNone, at_place, key_at, place_in, values_in}
use Rattle.dstm_structures.specs.Ordered as ordered
use Rattle.dstm_structures.specs.Ordered.{IsInOrder, WastesNoFork}
use Rattle.dstm_structures.specs.Sets as sets
use Rattle.dstm_structures.specs.Sets.{present_of}
use Rattle.dstm_structures.specs.declared.map.HashMap.{HashMap}
use Rattle.dstm_structures.specs.declared.ordered.OrderedMap.{OrderedMap}
use Rattle.dstm_structures.specs.declared.set.OrderedSet.{OrderedSet}
use Rattle.dstm_structures.proofs.Counting.{AreApart, In, no-more}
use Rattle.dstm_structures.proofs.Maps.{place-holds}
use Rattle.dstm_structures.proofs.Places.{none_not, some_is}

-- ---- numbers below another one

abbrev below : ℕ → List ℕ
below zero = []
below (suc n) = n ∷ below n

in-below : (n c : ℕ) → c < n → In c (below n)
in-below zero c less = absurd (omega (arith, less))
in-below (suc n) c less = by (λ apart. in-below n c (omega (arith, less, apart))) (cases_eq c n)
  where
    by : ((c ≡ n → ⊥) → In c (below n)) → (c ≡ n) ⊎ (c ≡ n → ⊥) → In c (n ∷ below n)
    by rest (inl is) = inl is
    by rest (inr apart) = inr (rest apart)

length-below : (n : ℕ) → length (below n) ≡ n
length-below zero = refl
length-below (suc n) = omega (arith, length-below n)

in-nth : (xs : List ℕ) (k d : ℕ) → k < length xs → In (get_or xs k d) xs
in-nth [] k d less = absurd (omega (arith, less))
in-nth (x ∷ xs) zero d less = inl refl
in-nth (x ∷ xs) (suc k) d less = inr (in-nth xs k d (omega (arith, less)))

-- ---- the numbers that items tell

module _ {X : Type 0} (f : X → ℕ) where
  abbrev told : List X → List ℕ
  told [] = []
  told (x ∷ xs) = f x ∷ told xs

  length-told : (xs : List X) → length (told xs) ≡ length xs
  length-told [] = refl
  length-told (x ∷ xs) = omega (arith, length-told xs)

  at-told : (xs : List X) (k : ℕ) (d : X) → k < length xs → In (f (get_or xs k d)) (told xs)
  at-told [] k d less = absurd (omega (arith, less))
  at-told (x ∷ xs) zero d less = inl refl
  at-told (x ∷ xs) (suc k) d less = inr (at-told xs k d (omega (arith, less)))

  in-told : (xs : List X) (x : X) → Contains xs x → In (f x) (told xs)
  in-told xs x c = subst (λ (y : X). In (f y) (told xs)) c.2 (at-told xs c.0 x c.1)

  told-at : (xs : List X) (c : ℕ) → In c (told xs) →
      (k : ℕ) × (k < length xs) × ((d : X) → f (get_or xs k d) ≡ c)
  told-at [] c there = absurd there
  told-at (x ∷ xs) c (inl is) = (0, omega arith, λ d. sym is)
  told-at (x ∷ xs) c (inr later) = let rest = told-at xs c later in (suc rest.0, omega (arith, rest.1), λ d. rest.2 d)

  told-apart : (xs : List X) → AllPairs (λ one other. f one ≢ f other) xs → AreApart (told xs)
  told-apart [] once = tt
  told-apart (x ∷ xs) once =
      (λ there. first (told-at xs (f x) there), told-apart xs (λ i j d less within. once (suc i) (suc j) d (omega (arith, less)) (omega (arith, within))))
    where
      first : (k : ℕ) × (k < length xs) × ((d : X) → f (get_or xs k d) ≡ f x) → ⊥
      first (k, within, is) = once 0 (suc k) x (omega arith) (omega (arith, within)) (sym (is x))

-- ---- keys, each at a place of its own

abbrev number : Option ℕ → ℕ
number None = 0
number (Some at) = at

module _ (n : ℕ) (place : ℕ → Option ℕ) (keys : List ℕ) (apart : AreApart keys)
    (all : (k at : ℕ) → place k ≡ Some at → In k keys)
    (only : (k : ℕ) → In k keys → (at : ℕ) × (at < n) × (place k ≡ Some at))
    (same : (j k at : ℕ) → place j ≡ Some at → place k ≡ Some at → j ≡ k)
    (full : (at : ℕ) → at < n → (k : ℕ) × (place k ≡ Some at)) where
  here : (m : ℕ) → suc m ≤ n → m < n
  here m few = omega (arith, few)

  fewer : (m : ℕ) → suc m ≤ n → m ≤ n
  fewer m few = omega (arith, few)

  -- the keys at the first places
  abbrev kept : (m : ℕ) → m ≤ n → List ℕ
  kept zero few = []
  kept (suc m) few = (full m (here m few)).0 ∷ kept m (fewer m few)

  length-kept : (m : ℕ) (few : m ≤ n) → length (kept m few) ≡ m
  length-kept zero few = refl
  length-kept (suc m) few = omega (arith, length-kept m (fewer m few))

  kept-at : (m : ℕ) (few : m ≤ n) (k : ℕ) → In k (kept m few) → (at : ℕ) × (at < m) × (place k ≡ Some at)
  kept-at zero few k there = absurd there
  kept-at (suc m) few k (inl is) = (m, omega arith, ap place is ∙ (full m (here m few)).1)
  kept-at (suc m) few k (inr later) =
      let rest = kept-at m (fewer m few) k later in (rest.0, omega (arith, rest.1), rest.2)

  kept-apart : (m : ℕ) (few : m ≤ n) → AreApart (kept m few)
  kept-apart zero few = tt
  kept-apart (suc m) few =
      (λ there. twice (kept-at m (fewer m few) (full m (here m few)).0 there), kept-apart m (fewer m few))
    where
      twice : (at : ℕ) × (at < m) × (place (full m (here m few)).0 ≡ Some at) → ⊥
      twice (at, less, is) =
          let same_place : m ≡ at = some_is m at (sym (full m (here m few)).1 ∙ is) in omega (arith, same_place, less)

  -- the places of keys
  abbrev spots : List ℕ → List ℕ
  spots = told (λ (k : ℕ). number (place k))

  spots-apart : (ks : List ℕ) → ((k : ℕ) → In k ks → In k keys) → AreApart ks → AreApart (spots ks)
  spots-apart [] among each = tt
  spots-apart (x ∷ xs) among each = (
    λ there. twice (told-at (λ (k : ℕ). number (place k)) xs (number (place x)) there),
    spots-apart xs (λ k later. among k (inr later)) each.1,
  )
    where
      there-is : (k : ℕ) → In k xs → number (place k) ≡ number (place x) → k ≡ x
      there-is k later is =
          let one = only k (among k (inr later)) in
          let other = only x (among x (inl refl)) in
          let at : one.0 ≡ other.0 = sym (ap number one.2) ∙ is ∙ ap number other.2 in
          same k x one.0 one.2 (other.2 ∙ ap Some (sym at))

      twice : (k : ℕ) × (k < length xs) × ((d : ℕ) → number (place (get_or xs k d)) ≡ number (place x)) → ⊥
      twice (k, within, is) =
          let here : In (get_or xs k x) xs = in-nth xs k x within in
          each.0 (subst (λ (y : ℕ). In y xs) (there-is (get_or xs k x) here (is x)) here)

  -- THERE ARE AS MANY KEYS AS PLACES
  as-many : length keys ≡ n
  as-many =
      let most = no-more (spots keys) (below n) (spots-apart keys (λ k there. there) apart) (λ c there. in-below n c (inside c there)) in
      let least = no-more (kept n (omega arith)) keys (kept-apart n (omega arith))
      (λ k there. let at = kept-at n (omega arith) k there in all k at.0 at.2) in
      omega (
        arith,
        most,
        least,
        length-told (λ (k : ℕ). number (place k)) keys,
        length-below n,
        length-kept n (omega arith),
      )
    where
      inside : (c : ℕ) → In c (spots keys) → c < n
      inside c there = by (told-at (λ (k : ℕ). number (place k)) keys c there)
        where
          by : (k : ℕ) × (k < length keys) × ((d : ℕ) → number (place (get_or keys k d)) ≡ c) → c < n
          by (k, within, is) =
              let at = only (get_or keys k 0) (in-nth keys k 0 within) in
              let here : at.0 ≡ c = sym (ap number at.2) ∙ is 0 in
              omega (arith, at.1, here)

-- ---- maps

-- the key of an item, and that of a key
abbrev key_told : {V : Type 0} → ℕ × V → ℕ
key_told item = item.0

abbrev itself : ℕ → ℕ
itself k = k

module _ {V : Type 0} (found : Val → V) (map : HashMap V) (values : List Val) (wastes : WastesNone map values)
    (held : (at : ℕ) → at < map.cells.capacity → is_some (key_at map values at) ≡ true) where
  abbrev n : ℕ
  n = map.cells.capacity

  abbrev place : ℕ → Option ℕ
  place key = place_in map.cells.first n values key

  found-at : (at : ℕ) → at < n → (key : ℕ) × (place key ≡ Some at)
  found-at at here = by (key_at map values at) refl
    where
      never : false ≡ true → ⊥
      never e = cc

      by : (o : Option ℕ) → key_at map values at ≡ o → (key : ℕ) × (place key ≡ Some at)
      by None is = absurd (never (sym (ap is_some is) ∙ held at here))
      by (Some key) is = (key, wastes at key here is)

  item-there : (key : ℕ) (o : Option ℕ) (value : V) → at_place (values_in found map.cells.first values) o ≡ Some value →
      (at : ℕ) × (o ≡ Some at)
  item-there key None value is = absurd (none_here value is)
    where
      none_here : (v : V) → None ≡ Some v → ⊥
      none_here v e = cc
  item-there key (Some at) value is = (at, refl)

  -- by a list of the keys
  counted : (keys : List ℕ) → AreApart keys → ((key at : ℕ) → place key ≡ Some at → In key keys) →
      ((key : ℕ) → In key keys → (at : ℕ) × (place key ≡ Some at)) → length keys ≡ n
  counted keys apart all only =
      as-many n place keys apart all
      (λ key there. let at = only key there in
      (at.0, (place-holds map.cells.first n map.cells.some values key at.0 at.1).1, at.1))
      (λ j k at one other. some_is j k (sym (place-holds map.cells.first n map.cells.some values j at one).0
      ∙ (place-holds map.cells.first n map.cells.some values k at other).0))
      found-at

  pub count-full : (count : ℕ) (after : List Val) → Counts found map count values after → count ≡ n
  count-full count after counts =
      counts.is ∙ sym (length-told key_told counts.items)
      ∙ counted (told key_told counts.items) (told-apart key_told counts.items counts.lists.once)
      (λ k at is. in-told key_told counts.items (k, values_in found map.cells.first values at)
      (counts.lists.all k (values_in found map.cells.first values at)
      (ap (at_place (values_in found map.cells.first values)) is)))
      (λ k there. by k (told-at key_told counts.items k there))
    where
      by : (k : ℕ) → (i : ℕ) × (i < length counts.items) × ((d : ℕ × V) → (get_or counts.items i d).0 ≡ k) →
          (at : ℕ) × (place k ≡ Some at)
      by k (i, within, is) = of (nth counts.items i within)
        where
          nth : (xs : List (ℕ × V)) (j : ℕ) → j < length xs → (x : ℕ × V) × ((d : ℕ × V) → get_or xs j d ≡ x)
          nth [] j less = absurd (omega (arith, less))
          nth (x ∷ xs) zero less = (x, λ d. refl)
          nth (x ∷ xs) (suc j) less = nth xs j (omega (arith, less))

          of : (x : ℕ × V) × ((d : ℕ × V) → get_or counts.items i d ≡ x) → (at : ℕ) × (place k ≡ Some at)
          of (x, here) =
              let told_is : x.0 ≡ k = sym (ap (λ (y : ℕ × V). y.0) (here x)) ∙ is x in
              let at = item-there x.0 (place x.0) x.1 (counts.lists.only x.0 x.1 (i, within, here x)) in
              (at.0, ap place (sym told_is) ∙ at.1)

-- ---- what is made

-- a new ordered map wastes no place and no fork
pub made-ordered : {V : Type 0} (found : Val → V) (map : OrderedMap V) (before after : List Val) →
    ordered.Adds found map before after → WastesNone map.map after × WastesNoFork map after
made-ordered found map before after adds =
    (λ at key here held. absurd (none_not key (sym (adds.free at here) ∙ held)), by adds.order)
  where
    by : IsInOrder map after → WastesNoFork map after
    by (inl bare) = inl (bare, adds.forks)
    by (inr (t, is)) = inr (t, is, λ c here unused. adds.forks c here)

-- nor does a new set
pub made-set : (set : OrderedSet) (before after : List Val) → sets.Adds set before after →
    WastesNone set.map.map after × WastesNoFork set.map after
made-set set before after adds =
    (λ at key here held. absurd (none_not key (sym (adds.free at here) ∙ held)), by adds.order)
  where
    by : IsInOrder set.map after → WastesNoFork set.map after
    by (inl bare) = inl (bare, adds.forks)
    by (inr (t, is)) = inr (t, is, λ c here unused. adds.forks c here)

-- ---- what is refused

-- A HASH MAP HAS NO ROOM only where there are as many keys as places
pub full-map : {V : Type 0} (found : Val → V) (map : HashMap V) (key count : ℕ) (before after later : List Val) →
    WastesNone map before → HasNoRoom found map key before after → Counts found map count before later →
    count ≡ map.cells.capacity
full-map found map key count before after later wastes none counts = count-full found map before wastes none.full count later counts

-- an ordered map
pub full-ordered : {V : Type 0} (found : Val → V) (map : OrderedMap V) (key count : ℕ) (before after later : List Val) →
    WastesNone map.map before → WastesNoFork map before → ordered.HasNoRoom found map key before after →
    Counts found map.map count before later → count ≡ map.map.cells.capacity
full-ordered found map key count before after later wastes forks none counts =
    count-full found map.map before wastes (none.places forks) count later counts

-- a set
pub full-set : (set : OrderedSet) (key count : ℕ) (before after later : List Val) → WastesNone set.map.map before →
    WastesNoFork set.map before → sets.HasNoRoom set key before after → sets.Counts set count before later →
    count ≡ set.map.map.cells.capacity
full-set set key count before after later wastes forks none counts =
    counts.is ∙ sym (length-told itself counts.keys)
    ∙ counted present_of set.map.map before wastes (none.places forks) (told itself counts.keys) (told-apart itself counts.keys counts.once)
    (λ k at is. in-told itself counts.keys k (counts.all k (ap (λ (o : Option ℕ). is_some (at_place (values_in present_of set.map.map.cells.first before) o)) is)))
    (λ k there. by k (told-at itself counts.keys k there))
  where
    there-is : (o : Option ℕ) → is_some (at_place (values_in present_of set.map.map.cells.first before) o) ≡ true → (at : ℕ) × (o ≡ Some at)
    there-is None is = absurd (never is)
      where
        never : false ≡ true → ⊥
        never e = cc
    there-is (Some at) is = (at, refl)

    by : (k : ℕ) → (i : ℕ) × (i < length counts.keys) × ((d : ℕ) → get_or counts.keys i d ≡ k) →
        (at : ℕ) × (place_in set.map.map.cells.first set.map.map.cells.capacity before k ≡ Some at)
    by k (i, within, is) = there-is (place_in set.map.map.cells.first set.map.map.cells.capacity before k) (counts.only k (i, within, is k))
