-- What the index of the reads tells of them, and that it stands after each change.
use Rattle.std.proofs.Common.{◌≡◌, ◌≢◌, ◌==◌, ◌+◌, ◌<◌, ◌≤◌, ◌||◌, ◌++◌, ◌⊎◌, ◌∙◌, ℕ, List, [], ◌∷◌, Bool, true, false, not, cond, length, ltb, Option, Some, None, is_some, IsTrue, Ok, Err, Result, ◌↔◌, get_or, inl, inr, suc, zero, refl, ap, sym, subst, arith}
use Rattle.dstm_core.proofs.Base.{IsIndexed, Read, count_before, is_among, nat_tests, or_read, place_of, read_at, read_of, reads_at}
use Rattle.std.proofs.lemmas.Grind.{common_steps}
use Rattle.std.specs.BTreeMap.{is_at}
use Rattle.std.specs.BTreeSet.{insert_key}
use Rattle.std.specs.List.{slice_get}
use Rattle.std.specs.Ordering.{nat_cmp}
use Rattle.std.specs.Result.{OnErr}
use Rattle.std.specs.Set.{remove_key}
use Rattle.std.proofs.lemmas.List.{length-map}
use Rattle.std.proofs.lemmas.List.Sums.{count_by-le-length}
use Rattle.std.proofs.lemmas.Option.{slice_get_within, slice_get_read, get_or_from_slice_get}
use Rattle.dstm_core.specs.Reads.{Checklist}
use Rattle.dstm_core.proofs.Reading.{same_or_not, OneOf, NoneOf, insert_last, remove_last, one_found, among-push, read_at_old, read_at_last}

-- two lists of reads of which as many are checked
pub same_list : {rs ts : List Read} (m n : ℕ) → rs ≡ ts → m ≡ n →
    let a : Checklist = record { reads = rs; checked = m } in
    let b : Checklist = record { reads = ts; checked = n } in a ≡ b
same_list m n e f = cc

pub count_zero : (ks : List ℕ) → count_before 0 ks ≡ 0
count_zero [] = refl
count_zero (k ∷ ks) = let rest = count_zero ks in grind (arith, nat_tests, common_steps)

-- an object with a place has one read, which stands there
pub of_one : {rs : List Read} {ks : List ℕ} {es : List (ℕ × ℕ)} {c : ℕ} (o p : ℕ) → IsIndexed rs ks es c →
    place_of o es ≡ Some p → OneOf o rs ks p
of_one {es = es} o p x h = record {
  among = (x.placed o p h).0;
  object = (x.placed o p h).1;
  alone = λ q a e.
      let there : place_of o es ≡ Some q = subst (λ (n : ℕ). place_of n es ≡ Some q) e (x.found q a) in cc;
}

-- and one without a place has none
pub of_none : {rs : List Read} {ks : List ℕ} {es : List (ℕ × ℕ)} {c : ℕ} (o : ℕ) → IsIndexed rs ks es c →
    place_of o es ≡ None → NoneOf o rs ks
of_none {es = es} o x h = λ q a e.
    let there : place_of o es ≡ Some q = subst (λ (n : ℕ). place_of n es ≡ Some q) e (x.found q a) in cc

cases : (o : Option ℕ) → (o ≡ None) ⊎ ((p : ℕ) × (o ≡ Some p))
cases None = inl refl
cases (Some p) = inr (p, refl)

pub free : {rs : List Read} {ks : List ℕ} {es : List (ℕ × ℕ)} {c : ℕ} (o : ℕ) → IsIndexed rs ks es c →
    read_of o (reads_at rs ks) ≡ None → place_of o es ≡ None
free {es = es} o x h = go (cases (place_of o es))
  where
    go : (place_of o es ≡ None) ⊎ ((p : ℕ) × (place_of o es ≡ Some p)) → place_of o es ≡ None
    go (inl e) = e
    go (inr (p, e)) = let there = one_found (of_one o p x e) in absurd (cc)

longer : (rs : List Read) (r : Read) → length (rs ++ r ∷ []) ≡ length rs + 1
longer rs r = grind (arith, common_steps)

-- one read more that is recorded, and at none of the places
pub indexed_more : {rs : List Read} {ks : List ℕ} {es : List (ℕ × ℕ)} {c : ℕ} (r : Read) →
    IsIndexed rs ks es c → IsIndexed (rs ++ r ∷ []) ks es c
indexed_more {rs = rs} {es = es} r x = record {
  within = λ p a. let old = x.within p a in omega (arith, longer rs r);
  placed = λ o p h.
      let old = x.placed o p h in
      (old.0, ap (λ (q : Read). q.object) (read_at_old rs r p (x.within p old.0)) ∙ old.1);
  found = λ p a.
      subst (λ (q : Read). place_of q.object es ≡ Some p) (sym (read_at_old rs r p (x.within p a))) (x.found p a);
  begins = let old = x.begins in omega (arith, longer rs r);
}

split : (a b : Bool) → (a || b) ≡ true → (a ≡ true) ⊎ (b ≡ true)
split true b h = inl refl
split false b h = inr h

at_yes : (o q : ℕ) → o ≡ q → is_at (nat_cmp o) q ≡ true
at_yes o q h = grind (arith, nat_tests)

at_no : (o q : ℕ) → o ≢ q → is_at (nat_cmp o) q ≡ false
at_no o q h = grind (arith, nat_tests)

-- the entries give an object a place, and the others the places that they had
abbrev pub Gives : ℕ → Option ℕ → List (ℕ × ℕ) → List (ℕ × ℕ) → Type 0
Gives o place old new = (q : ℕ) → place_of q new ≡ cond (is_at (nat_cmp o) q) place (place_of q old)

gives_here : (o : ℕ) (place : Option ℕ) (old new : List (ℕ × ℕ)) (q : ℕ) → Gives o place old new → o ≡ q →
    place_of q new ≡ place
gives_here o place old new q g h = let test = at_yes o q h in rw test at (g q)

gives_other : (o : ℕ) (place : Option ℕ) (old new : List (ℕ × ℕ)) (q : ℕ) → Gives o place old new → o ≢ q →
    place_of q new ≡ place_of q old
gives_other o place old new q g h = let test = at_no o q h in rw test at (g q)

-- one read more, at its place
pub indexed_push : {rs : List Read} {ks : List ℕ} {es : List (ℕ × ℕ)} (new : List (ℕ × ℕ)) {c : ℕ} (r : Read) →
    IsIndexed rs ks es c → place_of r.object es ≡ None → Gives r.object (Some (length rs)) es new
    → IsIndexed (rs ++ r ∷ []) (ks ++ length rs ∷ []) new c
indexed_push {rs = rs} {ks = ks} {es = es} new r x none g = record {
  within = λ p a. within p (split _ _ (sym (among-push p (length rs) ks) ∙ a));
  placed = λ o p h. placed o p (same_or_not r.object o) h;
  found = λ p a. found p (split _ _ (sym (among-push p (length rs) ks) ∙ a));
  begins = let old = x.begins in omega (arith, longer rs r);
}
  where
    is_last : (p : ℕ) → (p == length rs) ≡ true → p ≡ length rs
    is_last p h = grind (arith, nat_tests)

    within : (p : ℕ) → (is_among p ks ≡ true) ⊎ ((p == length rs) ≡ true) → p < length (rs ++ r ∷ [])
    within p (inl a) = let old = x.within p a in omega (arith, longer rs r)
    within p (inr h) = let e = is_last p h in omega (arith, longer rs r)

    placed : (o p : ℕ) → (r.object ≡ o) ⊎ (r.object ≢ o) → place_of o new ≡ Some p
        → (is_among p (ks ++ length rs ∷ []) ≡ true) × ((read_at (rs ++ r ∷ []) p).object ≡ o)
    placed o p (inl e) h =
        let here = gives_here r.object (Some (length rs)) es new o g e in
        let same : length rs ≡ p = cc in
        let there : (p == length rs) ≡ true = grind (arith, nat_tests) in (
          among-push p (length rs) ks ∙ grind (arith, nat_tests),
          ap (λ (q : ℕ). (read_at (rs ++ r ∷ []) q).object) (sym same)
              ∙ ap (λ (q : Read). q.object) (read_at_last rs r) ∙ e,
        )
    placed o p (inr n) h =
        let old = x.placed o p (sym (gives_other r.object (Some (length rs)) es new o g n) ∙ h) in
        let among = old.0 in (
          among-push p (length rs) ks ∙ grind (arith, nat_tests),
          ap (λ (q : Read). q.object) (read_at_old rs r p (x.within p old.0)) ∙ old.1,
        )

    found : (p : ℕ) → (is_among p ks ≡ true) ⊎ ((p == length rs) ≡ true) →
        place_of (read_at (rs ++ r ∷ []) p).object new ≡ Some p
    found p (inl a) =
        let old = x.found p a in
        let other : r.object ≢ (read_at rs p).object =
        λ e. let there : place_of r.object es ≡ Some p = ap (λ (q : ℕ). place_of q es) e ∙ old in cc in
        ap (λ (q : Read). place_of q.object new) (read_at_old rs r p (x.within p a))
        ∙ gives_other r.object (Some (length rs)) es new (read_at rs p).object g other ∙ old
    found p (inr h) =
        let e = is_last p h in
        ap (λ (q : ℕ). place_of (read_at (rs ++ r ∷ []) q).object new) e
        ∙ ap (λ (q : Read). place_of q.object new) (read_at_last rs r)
        ∙ gives_here r.object (Some (length rs)) es new r.object g refl ∙ ap Some (sym e)

-- without the place of an object's read
pub indexed_less : {rs : List Read} {ks : List ℕ} (less : List ℕ) {es : List (ℕ × ℕ)} (new : List (ℕ × ℕ)) {c : ℕ}
    (o p : ℕ) →
    IsIndexed rs ks es c → place_of o es ≡ Some p → Gives o None es new
    → ((q : ℕ) → is_among q less ≡ cond (is_at (nat_cmp p) q) false (is_among q ks)) → IsIndexed rs less new 0
indexed_less {rs = rs} {ks = ks} less {es = es} new o p x here g gone = record {
  within = λ q a. x.within q (was q a);
  placed = λ n q h. placed n q (same_or_not o n) h;
  found = λ q a. found q (same_or_not p q) a;
  begins = omega arith;
}
  where
    not_here : (q : ℕ) → is_among q less ≡ true → p ≢ q
    not_here q a e =
        let test = at_yes p q e in let none : is_among q less ≡ false = rw test at (gone q) in cc

    was : (q : ℕ) → is_among q less ≡ true → is_among q ks ≡ true
    was q a =
        let test = at_no p q (not_here q a) in
        let same : is_among q less ≡ is_among q ks = rw test at (gone q) in sym same ∙ a

    placed : (n q : ℕ) → (o ≡ n) ⊎ (o ≢ n) → place_of n new ≡ Some q →
        (is_among q less ≡ true) × ((read_at rs q).object ≡ n)
    placed n q (inl e) h = let none = gives_here o None es new n g e in absurd (cc)
    placed n q (inr m) h =
        let old = x.placed n q (sym (gives_other o None es new n g m) ∙ h) in
        let other : p ≢ q = λ e. m (sym (x.placed o p here).1 ∙ ap (λ (k : ℕ). (read_at rs k).object) e ∙ old.1) in
        let test = at_no p q other in
        let same : is_among q less ≡ is_among q ks = rw test at (gone q) in
        (same ∙ old.0, old.1)

    found : (q : ℕ) → (p ≡ q) ⊎ (p ≢ q) → is_among q less ≡ true → place_of (read_at rs q).object new ≡ Some q
    found q (inl e) a = absurd (not_here q a e)
    found q (inr m) a =
        let old = x.found q (was q a) in
        let other : o ≢ (read_at rs q).object =
        λ e. m (let there : place_of o es ≡ Some q = ap (λ (k : ℕ). place_of k es) e ∙ old in cc) in
        gives_other o None es new (read_at rs q).object g other ∙ old

-- the same places and entries, and nothing checked
pub indexed_restart : {rs : List Read} {ks : List ℕ} {es new : List (ℕ × ℕ)} {c : ℕ} → IsIndexed rs ks es c →
    new ≡ es → IsIndexed rs ks new 0
indexed_restart {rs = rs} {ks = ks} {es = es} x e =
    let old : IsIndexed rs ks es 0 =
    record { within = x.within; placed = x.placed; found = x.found; begins = omega arith } in
    subst (λ (m : List (ℕ × ℕ)). IsIndexed rs ks m 0) (sym e) old

-- ---- what the code found

pub read_is : (rs : List Read) (p : ℕ) {r : Read} → p < length rs → r ≡ get_or rs p r → r ≡ read_at rs p
read_is rs p {r = r} h e =
    sym (get_or_from_slice_get rs p r (or_read None) (slice_get_read rs (length rs) p r refl h e))

past : (xs : List ℕ) (i : ℕ) → slice_get xs i ≡ None → length xs ≤ i
past [] i h = omega arith
past (x ∷ xs) zero h = absurd (cc)
past (x ∷ xs) (suc i) h = let rest = past xs i h in grind (arith, common_steps)

pub all_checked : (rs : List Read) (ks : List ℕ) (c : ℕ) {o : Option ℕ} (b : Bool) →
    o ≡ slice_get ks (count_before c ks) → is_some o ≡ not b → IsTrue b ↔ (count_before c ks ≡ length (reads_at rs ks))
all_checked rs ks c {o = None} true e t = (
  (λ _. let few = count_by-le-length (λ (q : ℕ). ltb q c) ks in
      let many = past ks (count_before c ks) (sym e) in omega (arith, length-map ks (read_at rs))),
  (λ _. refl),
)
all_checked rs ks c {o = None} false e t = absurd (cc)
all_checked rs ks c {o = (Some p)} true e t = absurd (cc)
all_checked rs ks c {o = (Some p)} false e t = (
  (λ h. absurd (cc)),
  (λ h. let within = slice_get_within ks (count_before c ks) p (sym e) in
      absurd (omega (arith, length-map ks (read_at rs), h))),
)

-- ---- a place inserted, and removed again

pub put_last : {rs : List Read} {ks put : List ℕ} {es : List (ℕ × ℕ)} {c : ℕ} (n : ℕ) → IsIndexed rs ks es c →
    n ≡ length rs → put ≡ insert_key nat_cmp ks n → put ≡ ks ++ length rs ∷ []
put_last {rs = rs} {ks = ks} n x e h = h ∙ ap (insert_key nat_cmp ks) e ∙ insert_last (length rs) ks x.within

pub put_back : {rs : List Read} {ks put back : List ℕ} {es : List (ℕ × ℕ)} {c : ℕ} (n : ℕ) → IsIndexed rs ks es c →
    n ≡ length rs → put ≡ insert_key nat_cmp ks n → back ≡ remove_key (is_at (nat_cmp n)) put → back ≡ ks
put_back {rs = rs} {ks = ks} {put = put} n x e h g =
    g ∙ ap (λ (m : ℕ). remove_key (is_at (nat_cmp m)) put) e
    ∙ ap (remove_key (is_at (nat_cmp (length rs)))) (put_last n x e h)
    ∙ remove_last (length rs) ks x.within

pub err_any : {T E : Type 0} (r : Result T E) (P : Type 0) → P → OnErr r P
err_any (Ok x) P h = tt
err_any (Err e) P h = h
