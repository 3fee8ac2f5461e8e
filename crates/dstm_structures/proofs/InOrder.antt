-- What an ordered map tells of its keys where its cells are in order, and what keeps them in order.
use Rattle.std.proofs.Common.{◌≡◌, ◌∙◌, ℕ, ◌+◌, ◌*◌, ◌<◌, ◌≤◌, Bool, true, false, List, ap, arith, cond, refl, sym, subst, inl, inr, nat_lt}
use Rattle.std.specs.Prelude.{Option, None, Some}
use Rattle.dstm_model.specs.declared.value.Val.{Val}
use Rattle.dstm_model.specs.Map.{value_at}
use Rattle.dstm_structures.specs.Places.{is_key}
use Rattle.dstm_structures.specs.Maps.{at_place, item_of, key_of, keys_in, place_in, reach_of, values_in}
use Rattle.dstm_structures.specs.Ordered.{IsEnd, IsFirst, IsFirstAbove, IsInOrder, IsLast, IsLastBelow, Looks, TellsAbove, TellsBelow, TellsEnd, TellsInOrder, entry_at, entry_of}
use Rattle.dstm_structures.specs.Orders.{Trie, tip, fork, Has, EndsAll, FollowsAll, Holds, IsBare, IsEdge, IsNext, IsOrdered, IsOrderedBy, IsPrevious, PrecedesAll, forks_in, left_in, level_in, low_of, order_end, right_in, root_in, words_of}
use Rattle.dstm_structures.specs.Tips.{WastesNoFork}
use Rattle.dstm_structures.specs.declared.ordered.OrderedMap.{OrderedMap}
use Rattle.dstm_structures.proofs.Maps.{place-holds, place-kept}
use Rattle.dstm_structures.proofs.Places.{none_not}

-- ---- what cells hold that tell the same of forks, and the keys of the tips

pub holds-by : (n : ℕ) (keys keys_after : ℕ → Option ℕ) (forks forks_after : ℕ → ℕ × ℕ) →
    ((p : ℕ) → p < n → forks_after p ≡ forks p) → (t : Trie) → ((p k : ℕ) → Has p k t → keys_after p ≡ Some k) →
    Holds n keys forks t → Holds n keys_after forks_after t
holds-by n keys keys_after forks forks_after same (tip p k) told held = (held.0, told p k (refl, refl))
holds-by n keys keys_after forks forks_after same (fork p j q l r) told held =
    let is : forks_after p ≡ forks p = same p held.0 in (
      held.0,
      ap (λ (x : ℕ × ℕ). level_in x.1) is ∙ held.1,
      ap (λ (x : ℕ × ℕ). x.0) is ∙ held.2,
      ap (λ (x : ℕ × ℕ). left_in x.1) is ∙ held.3,
      ap (λ (x : ℕ × ℕ). right_in x.1) is ∙ held.4,
      holds-by n keys keys_after forks forks_after same l (λ a k h. told a k (inl h)) held.5,
      holds-by n keys keys_after forks forks_after same r (λ a k h. told a k (inr h)) held.6,
    )

module _ (first n : ℕ) (some : 0 < n) where
  -- each key that is found is found where it was
  pub record SamePlaces (before after : List Val) : Type 0 where
    pub places : (k : ℕ) → place_in first n after k ≡ place_in first n before k

  -- where roots, forks and places are the same
  module _ (before after : List Val) (root : root_in first n after ≡ root_in first n before)
      (forks : (p : ℕ) → p < n → forks_in first n after p ≡ forks_in first n before p)
      (places : (k : ℕ) → place_in first n after k ≡ place_in first n before k) where
    bare-kept : IsBare first n before → IsBare first n after
    bare-kept bare = record { root = root ∙ bare.root; none = λ k. places k ∙ bare.none k }

    trie-kept : (t : Trie) → IsOrderedBy first n t before → IsOrderedBy first n t after
    trie-kept t by = record {
      root = root ∙ by.root;
      held =
          holds-by n (keys_in first before) (keys_in first after) (forks_in first n before) (forks_in first n after)
          forks t (λ a k h. (place-holds first n some after k a (places k ∙ by.there a k h)).0) by.held;
      split = by.split;
      there = λ a k h. places k ∙ by.there a k h;
      all = λ a k at. by.all a k (sym (places k) ∙ at);
    }

    -- cells that were in order are
    pub order-kept : IsOrdered first n before → IsOrdered first n after
    order-kept (inl bare) = inl (bare-kept bare)
    order-kept (inr (t, by)) = inr (t, trie-kept t by)

    free-kept : (c : ℕ) → c < n → (forks_in first n before c).1 ≡ 0 → (forks_in first n after c).1 ≡ 0
    free-kept c here free = ap (λ (w : ℕ × ℕ). w.1) (forks c here) ∙ free

    -- and cells that waste no fork waste none
    pub forks-kept : WastesNoFork first n before → WastesNoFork first n after
    forks-kept (inl (bare, free)) = inl (bare-kept bare, λ c here. free-kept c here (free c here))
    forks-kept (inr (t, by, free)) = inr (t, trie-kept t by, λ c here off. free-kept c here (free c here off))

  -- where a change sets nothing of the order, and no cell that tells keys or how far they are looked for
  module _ {V : Type 0} (found : Val → V) (before after : List Val)
      (same : (o : ℕ) → first ≤ o → o < first + 3 * n + 1 → ((q : ℕ) → q < n → o ≡ first + 2 * q + 1 → ⊥) →
      value_at after o ≡ value_at before o) where
    root-apart : root_in first n after ≡ root_in first n before
    root-apart = ap low_of (same (first + 2 * n) (omega arith) (omega (arith, some)) (λ q below e. omega (arith, e)))

    forks-same : (p : ℕ) → p < n → forks_in first n after p ≡ forks_in first n before p
    forks-same p here =
        ap words_of
        (same (first + 2 * n + 1 + p) (omega arith) (omega (arith, here)) (λ q below e. omega (arith, e, below)))

    places-same : (k : ℕ) → place_in first n after k ≡ place_in first n before k
    places-same k =
        place-kept found first n some before after k
        (λ q below. ap (λ (v : Val). is_key k (key_of v))
        (same (first + 2 * q) (omega arith) (omega (arith, below)) (λ p here e. omega (arith, e))))
        (λ h below. ap (λ (v : Val). cond (nat_lt (reach_of v) n) (reach_of v) n)
        (same (first + 2 * h) (omega arith) (omega (arith, below)) (λ p here e. omega (arith, e))))

    pub order-apart : IsOrdered first n before → IsOrdered first n after
    order-apart order = order-kept before after root-apart forks-same places-same order

    pub forks-apart : WastesNoFork first n before → WastesNoFork first n after
    forks-apart spare = forks-kept before after root-apart forks-same places-same spare

module _ {V : Type 0} (found : Val → V) (map : OrderedMap V) where
  abbrev f : ℕ
  f = map.map.cells.first

  abbrev n : ℕ
  n = map.map.cells.capacity

  -- A CHANGE OF NO CELL OF THE MAP KEEPS THE CELLS IN ORDER
  pub stays-in-order : (before after : List Val) →
      ((o : ℕ) → f ≤ o → o < order_end map.map.cells → value_at after o ≡ value_at before o) →
      IsInOrder map before → IsInOrder map after
  stays-in-order before after same order =
      order-apart f n map.map.cells.some found before after (λ o from until where_it. same o from until) order

  -- ---- what the places of a trie hold

  -- a key without a place has no item
  pub no-item : (values : List Val) (k : ℕ) → ((q : ℕ) → place_in f n values k ≡ Some q → ⊥) →
      item_of found map.map values k ≡ None
  no-item values k none = by (place_in f n values k) none
    where
      by : (o : Option ℕ) → ((q : ℕ) → o ≡ Some q → ⊥) → at_place (values_in found f values) o ≡ None
      by None never = refl
      by (Some q) never = absurd (never q refl)

  -- and a key without an item has no place
  pub no-place : (values : List Val) (k : ℕ) → item_of found map.map values k ≡ None → place_in f n values k ≡ None
  no-place values k none = by (place_in f n values k) none
    where
      by : (o : Option ℕ) → at_place (values_in found f values) o ≡ None → o ≡ None
      by None e = refl
      by (Some q) e = absurd (none_not (values_in found f values q) (sym e))

  module _ (t : Trie) (values : List Val) (by : IsOrderedBy f n t values) where
    -- a key that a trie does not have has no item
    pub unhad : (k : ℕ) → ((q : ℕ) → Has q k t → ⊥) → item_of found map.map values k ≡ None
    unhad k none = no-item values k (λ q at. none q (by.all q k at))

    -- the item of a key that stands at a place of the trie
    had : (at key : ℕ) → Has at key t → item_of found map.map values key ≡ Some (values_in found f values at)
    had at key h = ap (at_place (values_in found f values)) (by.there at key h)

    -- what was seen at this place
    seen-at : (at key : ℕ) (answer : Option (ℕ × V)) → Has at key t → answer ≡ entry_at found map values (Some at) →
        answer ≡ Some (key, values_in found f values at)
    seen-at at key answer h is =
        is ∙ ap (λ (o : Option ℕ). entry_of found map o (values_in found f values at))
        (place-holds f n map.map.cells.some values key at (by.there at key h)).0

    end-by : (greatest : Bool) (place : Option ℕ) (answer : Option (ℕ × V)) → IsEdge greatest place t →
        answer ≡ entry_at found map values place → IsEnd found map greatest answer values
    end-by false None answer e is = absurd e
    end-by true None answer e is = absurd e
    end-by false (Some at) answer e is =
        subst (λ (a : Option (ℕ × V)). IsFirst found map a values) (sym (seen-at at e.0 answer e.1 is))
        (had at e.0 e.1, λ k less. unhad k (λ q h. omega (arith, less, e.2 q k h)))
    end-by true (Some at) answer e is =
        subst (λ (a : Option (ℕ × V)). IsLast found map a values) (sym (seen-at at e.0 answer e.1 is))
        (had at e.0 e.1, λ k more. unhad k (λ q h. omega (arith, more, e.2 q k h)))

    above-by : (key : ℕ) (place : Option ℕ) (answer : Option (ℕ × V)) → IsNext key place t →
        answer ≡ entry_at found map values place → IsFirstAbove found map key answer values
    above-by key None answer next is =
        subst (λ (a : Option (ℕ × V)). IsFirstAbove found map key a values) (sym is)
        (λ k more. unhad k (λ q h. omega (arith, more, next q k h)))
    above-by key (Some at) answer next is =
        subst (λ (a : Option (ℕ × V)). IsFirstAbove found map key a values) (sym (seen-at at next.0 answer next.1 is)) (
          had at next.0 next.1,
          next.2,
          λ k more less. unhad k (λ q h. omega (arith, less, next.3 q k h more)),
        )

    below-by : (key : ℕ) (place : Option ℕ) (answer : Option (ℕ × V)) → IsPrevious key place t →
        answer ≡ entry_at found map values place → IsLastBelow found map key answer values
    below-by key None answer before is =
        subst (λ (a : Option (ℕ × V)). IsLastBelow found map key a values) (sym is)
        (λ k less. unhad k (λ q h. omega (arith, less, before q k h)))
    below-by key (Some at) answer before is =
        subst (λ (a : Option (ℕ × V)). IsLastBelow found map key a values) (sym (seen-at at before.0 answer before.1 is)) (
          had at before.0 before.1,
          before.2,
          λ k more less. unhad k (λ q h. omega (arith, more, before.3 q k h less)),
        )

  -- ---- what is told

  -- no key is there
  bare-has : (values : List Val) → IsBare f n values → (k : ℕ) → item_of found map.map values k ≡ None
  bare-has values bare k = ap (at_place (values_in found f values)) (bare.none k)

  no-end : (greatest : Bool) (values : List Val) → IsBare f n values → IsEnd found map greatest None values
  no-end false values bare = bare-has values bare
  no-end true values bare = bare-has values bare

  -- what holds of nothing where no key is there, and of what a place holds where it is found by a trie
  told : (holds : Option (ℕ × V) → List Val → Type 0) (place : Option ℕ) (answer : Option (ℕ × V))
      (before mid after : List Val) → Looks found map place answer mid after → mid ≡ before →
      (root_in f n before ≡ 0 → place ≡ None) → (IsBare f n before → holds None before) →
      ((t : Trie) → IsOrderedBy f n t before → answer ≡ entry_at found map before place → holds answer before) →
      TellsInOrder map (holds answer) before after
  told holds place answer before mid after l same nowhere nothing something = record { is = by; same = l.same ∙ same }
    where
      is : answer ≡ entry_at found map before place
      is = l.is ∙ ap (λ (v : List Val). entry_at found map v place) same

      by : IsInOrder map before → holds answer before
      by (inl bare) =
          subst (λ (a : Option (ℕ × V)). holds a before) (sym (is ∙ ap (entry_at found map before) (nowhere bare.root)))
          (nothing bare)
      by (inr (t, o)) = something t o is

  pub tells-end : (greatest : Bool) (place : Option ℕ) (answer : Option (ℕ × V)) (before mid after : List Val) →
      EndsAll map.map.cells greatest place before mid → Looks found map place answer mid after →
      TellsEnd found map greatest answer before after
  tells-end greatest place answer before mid after e l =
      told (IsEnd found map greatest) place answer before mid after l e.same e.bare (no-end greatest before)
      (λ t o is. end-by t before o greatest place answer (e.is t o) is)

  pub tells-above : (key : ℕ) (place : Option ℕ) (answer : Option (ℕ × V)) (before mid after : List Val) →
      FollowsAll map.map.cells key place before mid → Looks found map place answer mid after →
      TellsAbove found map key answer before after
  tells-above key place answer before mid after e l =
      told (IsFirstAbove found map key) place answer before mid after l e.same e.bare
      (λ bare k more. bare-has before bare k) (λ t o is. above-by t before o key place answer (e.is t o) is)

  pub tells-below : (key : ℕ) (place : Option ℕ) (answer : Option (ℕ × V)) (before mid after : List Val) →
      PrecedesAll map.map.cells key place before mid → Looks found map place answer mid after →
      TellsBelow found map key answer before after
  tells-below key place answer before mid after e l =
      told (IsLastBelow found map key) place answer before mid after l e.same e.bare
      (λ bare k less. bare-has before bare k) (λ t o is. below-by t before o key place answer (e.is t o) is)
