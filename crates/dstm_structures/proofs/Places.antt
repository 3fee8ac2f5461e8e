-- Keys that are looked for in their places.
use Rattle.std.proofs.Common.{◌≡◌, ◌∙◌, ℕ, zero, suc, ◌+◌, ◌-◌, ◌<◌, ◌≤◌, Bool, true, false, ap, arith, cond, refl, sym, subst, ◌⊎◌, inl, inr, nat_lt, eq-eqb}
use Rattle.std.proofs.lemmas.Bool.{cases_eq}
use Rattle.std.specs.Prelude.{IfSome, Option, None, Some}
use Rattle.dstm_structures.specs.Circles.{behind}
use Rattle.dstm_structures.specs.Places.{AreTaken, find, is_free, is_key}

pub some_is : {T : Type 0} (a b : T) → Some a ≡ Some b → a ≡ b
some_is a b same = cc

pub of_some : {T : Type 0} (P : T → Type 0) {o : Option T} {x : T} → o ≡ Some x → IfSome o P → P x
of_some P is held = subst (λ o. IfSome o P) is held

pub none_not : {T : Type 0} (a : T) → None ≡ Some a → ⊥
none_not a same = cc

-- ---- whether a place holds a key

pub key_is : (key : ℕ) (o : Option ℕ) → is_key key o ≡ true → o ≡ Some key
key_is key None is = absurd (cc)
key_is key (Some held) is = grind arith

pub is_key-same : (key : ℕ) → is_key key (Some key) ≡ true
is_key-same key = eq-eqb key key refl

pub is_key-apart : (key held : ℕ) → (held ≡ key → ⊥) → is_key key (Some held) ≡ false
is_key-apart key held apart = grind arith

-- ---- places of a circle

pub behind-below : (n h j : ℕ) → h < n → j < n → behind n h j < n
behind-below n h j home few = grind arith

pub behind-once : (n h i j : ℕ) → h < n → i < n → j < n → behind n h i ≡ behind n h j → i ≡ j
behind-once n h i j home few less same = grind arith

-- each place stands so far behind a home
pub distance : (n h at : ℕ) → h < n → at < n → (j : ℕ) × (j < n) × (behind n h j ≡ at)
distance n h at home here = by (cases_lt at h)
  where
    cases_lt : (a b : ℕ) → (a < b) ⊎ (b ≤ a)
    cases_lt a b = grind arith

    by : (at < h) ⊎ (h ≤ at) → (j : ℕ) × (j < n) × (behind n h j ≡ at)
    by (inl low) = (at + n - h, omega (arith, low, home), grind (arith, low, home))
    by (inr high) = (at - h, omega (arith, high, here), grind (arith, high, here))

-- ---- searches

module _ (n : ℕ) (held : ℕ → Option ℕ) (key h : ℕ) where
  -- one step
  find-here : (passed left : ℕ) → is_key key (held (behind n h passed)) ≡ true →
      find n held key h passed (suc left) ≡ Some (behind n h passed)
  find-here passed left is =
      ap (λ b. cond b (Some (behind n h passed)) (find n held key h (passed + 1) left)) is

  find-later : (passed left : ℕ) → is_key key (held (behind n h passed)) ≡ false →
      find n held key h passed (suc left) ≡ find n held key h (passed + 1) left
  find-later passed left is =
      ap (λ b. cond b (Some (behind n h passed)) (find n held key h (passed + 1) left)) is

  decide : (b : Bool) → (b ≡ true) ⊎ (b ≡ false)
  decide true = inl refl
  decide false = inr refl

  pub find-holds : (passed left at : ℕ) → h < n → passed + left ≤ n → find n held key h passed left ≡ Some at →
      (held at ≡ Some key) × (at < n)
  find-holds passed zero at home few is = absurd (none_not at is)
  find-holds passed (suc left) at home few is =
      by (decide (is_key key (held (behind n h passed)))) (find-holds (passed + 1) left at home (omega (arith, few)))
    where
      by : (is_key key (held (behind n h passed)) ≡ true) ⊎ (is_key key (held (behind n h passed)) ≡ false) →
          (find n held key h (passed + 1) left ≡ Some at → (held at ≡ Some key) × (at < n)) →
          (held at ≡ Some key) × (at < n)
      by (inl it) later =
          let same : behind n h passed ≡ at = some_is (behind n h passed) at (sym (find-here passed left it) ∙ is) in
          let here : behind n h passed < n = behind-below n h passed home (omega (arith, few)) in (
            subst (λ q. held q ≡ Some key) same (key_is key (held (behind n h passed)) it),
            subst (λ q. q < n) same here,
          )
      by (inr other) later = later (sym (find-later passed left other) ∙ is)

  -- where it is found is one of the places that were looked at
  pub find-where : (passed left at : ℕ) → find n held key h passed left ≡ Some at →
      (j : ℕ) × (j < passed + left) × (behind n h j ≡ at)
  find-where passed zero at is = absurd (none_not at is)
  find-where passed (suc left) at is =
      by (decide (is_key key (held (behind n h passed)))) (find-where (passed + 1) left at)
    where
      by : (is_key key (held (behind n h passed)) ≡ true) ⊎ (is_key key (held (behind n h passed)) ≡ false) →
          (find n held key h (passed + 1) left ≡ Some at → (j : ℕ) × (j < passed + 1 + left) × (behind n h j ≡ at)) →
          (j : ℕ) × (j < passed + suc left) × (behind n h j ≡ at)
      by (inl it) later = (passed, omega arith, some_is (behind n h passed) at (sym (find-here passed left it) ∙ is))
      by (inr other) later =
          let w = later (sym (find-later passed left other) ∙ is) in (w.0, omega (arith, w.1), w.2)

  -- where it is not found, no place that was looked at holds it
  pub find-misses : (passed left : ℕ) → find n held key h passed left ≡ None → (j : ℕ) → passed ≤ j → j < passed + left →
      is_key key (held (behind n h j)) ≡ false
  find-misses passed zero is j from until = absurd (omega (arith, from, until))
  find-misses passed (suc left) is j from until =
      by (decide (is_key key (held (behind n h passed)))) (cases_eq j passed)
      (λ none apart. find-misses (passed + 1) left none j (omega (arith, from, apart)) (omega (arith, until)))
    where
      by : (is_key key (held (behind n h passed)) ≡ true) ⊎ (is_key key (held (behind n h passed)) ≡ false) →
          (j ≡ passed) ⊎ (j ≡ passed → ⊥) →
          (find n held key h (passed + 1) left ≡ None → (j ≡ passed → ⊥) → is_key key (held (behind n h j)) ≡ false) →
          is_key key (held (behind n h j)) ≡ false
      by (inl it) where_it later = absurd (none_not (behind n h passed) (sym is ∙ find-here passed left it))
      by (inr other) (inl same) later = ap (λ (x : ℕ). is_key key (held (behind n h x))) same ∙ other
      by (inr other) (inr apart) later = later (sym (find-later passed left other) ∙ is) apart

  pub find-none : (passed left : ℕ) →
      ((j : ℕ) → passed ≤ j → j < passed + left → is_key key (held (behind n h j)) ≡ false) →
      find n held key h passed left ≡ None
  find-none passed zero none = refl
  find-none passed (suc left) none =
      find-later passed left (none passed (omega arith) (omega arith))
      ∙ find-none (passed + 1) left (λ j from until. none j (omega (arith, from)) (omega (arith, until)))

  pub find-first : (passed left i : ℕ) → passed ≤ i → i < passed + left →
      ((j : ℕ) → passed ≤ j → j < i → is_key key (held (behind n h j)) ≡ false) →
      is_key key (held (behind n h i)) ≡ true → find n held key h passed left ≡ Some (behind n h i)
  find-first passed zero i from until others it = absurd (omega (arith, from, until))
  find-first passed (suc left) i from until others it =
      by (cases_eq i passed)
      (λ apart. find-first (passed + 1) left i (omega (arith, from, apart)) (omega (arith, until))
      (λ j low high. others j (omega (arith, low)) high) it)
    where
      by : (i ≡ passed) ⊎ (i ≡ passed → ⊥) →
          ((i ≡ passed → ⊥) → find n held key h (passed + 1) left ≡ Some (behind n h i)) →
          find n held key h passed (suc left) ≡ Some (behind n h i)
      by (inl same) later =
          find-here passed left (ap (λ (x : ℕ). is_key key (held (behind n h x))) (sym same) ∙ it)
          ∙ ap (λ (x : ℕ). Some (behind n h x)) (sym same)
      by (inr apart) later =
          find-later passed left (others passed (omega arith) (omega (arith, from, apart))) ∙ later apart

-- A search that goes as far, or further by places that do not hold the key.
pub find-further : (n : ℕ) (held after : ℕ → Option ℕ) (key h passed left more : ℕ) → left ≤ more →
    ((j : ℕ) → passed ≤ j → j < passed + left → is_key key (after (behind n h j)) ≡ is_key key (held (behind n h j))) →
    ((j : ℕ) → passed + left ≤ j → j < passed + more → is_key key (after (behind n h j)) ≡ false) →
    find n after key h passed more ≡ find n held key h passed left
find-further n held after key h passed zero more most same none =
    find-none n after key h passed more (λ j from until. none j (omega (arith, from)) until)
find-further n held after key h passed (suc left) zero most same none = absurd (omega (arith, most))
find-further n held after key h passed (suc left) (suc more) most same none =
    ap (λ b. cond b (Some (behind n h passed)) (find n after key h (passed + 1) more)) (same passed (omega arith) (omega arith))
    ∙ ap (λ (o : Option ℕ). cond (is_key key (held (behind n h passed))) (Some (behind n h passed)) o)
    (find-further n held after key h (passed + 1) left more (omega (arith, most))
    (λ j from until. same j (omega (arith, from)) (omega (arith, until)))
    (λ j from until. none j (omega (arith, from)) (omega (arith, until))))

-- ---- a key is put at the first free place

module _ (n : ℕ) (homes : ℕ → ℕ) (held after : ℕ → Option ℕ) (reach further : ℕ → ℕ) (key i : ℕ)
    (all_home : (k : ℕ) → homes k < n) (most : (h : ℕ) → reach h ≤ n) (few : i < n)
    (absent : find n held key (homes key) 0 (reach (homes key)) ≡ None)
    (free : is_free homes (homes key) (cond (nat_lt i (reach (homes key))) false true) (held (behind n (homes key) i)) ≡ true)
    (taken : AreTaken n homes held (homes key) (reach (homes key)) i)
    (there : after (behind n (homes key) i) ≡ Some key)
    (others : (q : ℕ) → q < n → (q ≡ behind n (homes key) i → ⊥) → after q ≡ held q)
    (far : further (homes key) ≡ cond (nat_lt (reach (homes key)) (i + 1)) (i + 1) (reach (homes key)))
    (as_far : (h : ℕ) → h < n → (h ≡ homes key → ⊥) → further h ≡ reach h) where
  abbrev h : ℕ
  h = homes key

  -- a place that is not free, beyond the places that are looked at, holds a key of another home
  beyond-other : (k : ℕ) (o : Option ℕ) → homes k ≡ h → is_free homes h true o ≡ false → is_key k o ≡ false
  beyond-other k None same taken_it = absurd (cc)
  beyond-other k (Some x) same taken_it = is_key-apart k x (λ e. not_home (ap homes e ∙ same))
    where
      not_home : homes x ≡ h → ⊥
      not_home e = grind (arith, taken_it, e)

  passed-other : (k j : ℕ) → homes k ≡ h → reach h ≤ j → j < i → is_key k (held (behind n h j)) ≡ false
  passed-other k j same from until =
      beyond-other k (held (behind n h j)) same
      (ap (λ b. is_free homes h b (held (behind n h j))) (sym (is_beyond j (reach h) from)) ∙ taken j until)
    where
      is_beyond : (a b : ℕ) → b ≤ a → cond (nat_lt a b) false true ≡ true
      is_beyond a b le = grind arith

  pub put-there : find n after key h 0 (further h) ≡ Some (behind n h i)
  put-there =
      find-first n after key h 0 (further h) i (omega arith) (grind (arith, far)) before
      (ap (is_key key) there ∙ is_key-same key)
    where
      missing : (j : ℕ) → j < i → (j < reach h) ⊎ (reach h ≤ j) → is_key key (held (behind n h j)) ≡ false
      missing j until (inl near) = find-misses n held key h 0 (reach h) absent j (omega arith) (omega (arith, near))
      missing j until (inr beyond) = passed-other key j refl beyond until

      cases_lt : (a b : ℕ) → (a < b) ⊎ (b ≤ a)
      cases_lt a b = grind arith

      before : (j : ℕ) → 0 ≤ j → j < i → is_key key (after (behind n h j)) ≡ false
      before j low until =
          ap (is_key key) (others (behind n h j) (behind-below n h j (all_home key) (omega (arith, until, few)))
          (λ e. away j until (behind-once n h j i (all_home key) (omega (arith, until, few)) few e)))
          ∙ missing j until (cases_lt j (reach h))
        where
          away : (j : ℕ) → j < i → j ≡ i → ⊥
          away j until e = omega (arith, until, e)

  pub put-other : (k : ℕ) → (k ≡ key → ⊥) →
      find n after k (homes k) 0 (further (homes k)) ≡ find n held k (homes k) 0 (reach (homes k))
  put-other k apart =
      find-further n held after k (homes k) 0 (reach (homes k)) (further (homes k)) (wider (cases_eq (homes k) h)) same none
    where
      wider : (homes k ≡ h) ⊎ (homes k ≡ h → ⊥) → reach (homes k) ≤ further (homes k)
      wider (inl e) = subst (λ x. reach x ≤ further x) (sym e) (grind (arith, far))
      wider (inr away) = let e : further (homes k) ≡ reach (homes k) = as_far (homes k) (all_home k) away in omega (arith, e)

      new_not : is_key k (Some key) ≡ false
      new_not = is_key-apart k key (λ e. apart (sym e))

      -- the place that was free did not hold the key where it is looked for
      old_not : (j : ℕ) → j < reach (homes k) → behind n (homes k) j ≡ behind n h i → (o : Option ℕ) →
          is_free homes h (cond (nat_lt i (reach h)) false true) o ≡ true → is_key k o ≡ false
      old_not j near at None is = refl
      old_not j near at (Some x) is = is_key-apart k x not_it
        where
          not_near : (i < reach h) → is_free homes h (cond (nat_lt i (reach h)) false true) (Some x) ≡ true → ⊥
          not_near less frees = grind (arith, less, frees)

          home_is : is_free homes h (cond (nat_lt i (reach h)) false true) (Some x) ≡ true → homes x ≡ h
          home_is frees = grind (arith, frees)

          not_it : x ≡ k → ⊥
          not_it e =
              let home_k : homes k ≡ h = ap homes (sym e) ∙ home_is is in
              let near_h : j < reach h = subst (λ y. j < reach y) home_k near in
              let at_h : behind n h j ≡ behind n h i = ap (λ y. behind n y j) (sym home_k) ∙ at in
              let less : j < n = omega (arith, near_h, most h) in
              let j_is : j ≡ i = behind-once n h j i (all_home key) less few at_h in
              not_near (subst (λ y. y < reach h) j_is near_h) is

      same : (j : ℕ) → 0 ≤ j → j < 0 + reach (homes k) →
          is_key k (after (behind n (homes k) j)) ≡ is_key k (held (behind n (homes k) j))
      same j low until = by (cases_eq (behind n (homes k) j) (behind n h i))
        where
          near : j < reach (homes k)
          near = omega (arith, until)

          by : (behind n (homes k) j ≡ behind n h i) ⊎ (behind n (homes k) j ≡ behind n h i → ⊥) →
              is_key k (after (behind n (homes k) j)) ≡ is_key k (held (behind n (homes k) j))
          by (inl at) =
              ap (λ q. is_key k (after q)) at ∙ ap (is_key k) there ∙ new_not
              ∙ sym (ap (λ q. is_key k (held q)) at ∙ old_not j near at (held (behind n h i)) free)
          by (inr away) =
              ap (is_key k) (others (behind n (homes k) j)
              (behind-below n (homes k) j (all_home k) (omega (arith, near, most (homes k)))) away)

      none : (j : ℕ) → 0 + reach (homes k) ≤ j → j < 0 + further (homes k) → is_key k (after (behind n (homes k) j)) ≡ false
      none j from until = by (cases_eq (homes k) h)
        where
          by : (homes k ≡ h) ⊎ (homes k ≡ h → ⊥) → is_key k (after (behind n (homes k) j)) ≡ false
          by (inr away) = let e : further (homes k) ≡ reach (homes k) = as_far (homes k) (all_home k) away in
              absurd (omega (arith, from, until, e))
          by (inl e) = ap (λ y. is_key k (after (behind n y j))) e ∙ at_home (cases_eq j i)
            where
              from_h : reach h ≤ j
              from_h = subst (λ y. reach y ≤ j) e (omega (arith, from))

              until_h : j < further h
              until_h = subst (λ y. j < further y) e (omega (arith, until))

              below : j ≤ i
              below = grind (arith, far, from_h, until_h)

              at_home : (j ≡ i) ⊎ (j ≡ i → ⊥) → is_key k (after (behind n h j)) ≡ false
              at_home (inl is) = ap (λ y. is_key k (after (behind n h y))) is ∙ ap (is_key k) there ∙ new_not
              at_home (inr apart_i) =
                  let less : j < i = omega (arith, below, apart_i) in
                  ap (is_key k) (others (behind n h j) (behind-below n h j (all_home key) (omega (arith, less, few)))
                  (λ at. apart_i (behind-once n h j i (all_home key) (omega (arith, less, few)) few at)))
                  ∙ passed-other k j e from_h less
