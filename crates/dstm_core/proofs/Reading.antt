-- The reads at some places: with one more, without one, and the one of an object.
use Rattle.std.proofs.Common.{◌≡◌, ◌≢◌, ◌==◌, ◌<◌, ◌≤◌, ◌||◌, ◌++◌, ◌⊎◌, ◌∙◌, ℕ, List, [], ◌∷◌, true, false, length, Some, None, inl, inr, refl, ap, sym, arith}
use Rattle.dstm_core.proofs.Base.{Read, count_before, drop_read, is_among, nat_tests, or_read, read_at, read_of, reads_at}
use Rattle.std.proofs.lemmas.Grind.{common_steps}
use Rattle.std.proofs.Math.ListN.{get_or-append}
use Rattle.std.proofs.Math.Seq.{get_or-append_seam}
use Rattle.std.specs.BTreeMap.{is_at}
use Rattle.std.specs.BTreeSet.{insert_key}
use Rattle.std.specs.Ordering.{nat_cmp}
use Rattle.std.specs.Set.{remove_key}

-- ---- places

among_head : (k : ℕ) (ks : List ℕ) → is_among k (k ∷ ks) ≡ true
among_head k ks = grind (arith, nat_tests)

among_tail : (p k : ℕ) (ks : List ℕ) → is_among p ks ≡ true → is_among p (k ∷ ks) ≡ true
among_tail p k ks h = grind (arith, nat_tests)

among_other : (p k : ℕ) (ks : List ℕ) → is_among p (k ∷ ks) ≡ true → p ≢ k → is_among p ks ≡ true
among_other p k ks h n = grind (arith, nat_tests)

-- every place of some stands before n
abbrev pub Before : List ℕ → ℕ → Type 0
Before ks n = (p : ℕ) → is_among p ks ≡ true → p < n

before_tail : (k n : ℕ) (ks : List ℕ) → Before (k ∷ ks) n → Before ks n
before_tail k n ks h = λ p a. h p (among_tail p k ks a)

insert_past : (k n : ℕ) (ks : List ℕ) → k < n → insert_key nat_cmp (k ∷ ks) n ≡ k ∷ insert_key nat_cmp ks n
insert_past k n ks h = grind (arith, nat_tests)

-- a place after all others is inserted as the last one
pub insert_last : (n : ℕ) (ks : List ℕ) → Before ks n → insert_key nat_cmp ks n ≡ ks ++ n ∷ []
insert_last n [] h = refl
insert_last n (k ∷ ks) h =
    insert_past k n ks (h k (among_head k ks))
    ∙ ap (λ (xs : List ℕ). k ∷ xs) (insert_last n ks (before_tail k n ks h))

remove_past : (k n : ℕ) (ks : List ℕ) → k < n →
    remove_key (is_at (nat_cmp n)) (k ∷ ks) ≡ k ∷ remove_key (is_at (nat_cmp n)) ks
remove_past k n ks h = grind (arith, nat_tests)

-- and removed again
pub remove_last : (n : ℕ) (ks : List ℕ) → Before ks n → remove_key (is_at (nat_cmp n)) (ks ++ n ∷ []) ≡ ks
remove_last n [] h = grind (arith, nat_tests)
remove_last n (k ∷ ks) h =
    remove_past k n (ks ++ n ∷ []) (h k (among_head k ks))
    ∙ ap (λ (xs : List ℕ). k ∷ xs) (remove_last n ks (before_tail k n ks h))

pub among-push : (p n : ℕ) (ks : List ℕ) → is_among p (ks ++ n ∷ []) ≡ (is_among p ks || (p == n))
among-push p n [] = grind (arith, nat_tests)
among-push p n (k ∷ ks) = let rest = among-push p n ks in grind (arith, nat_tests)

pub count-push : (c n : ℕ) (ks : List ℕ) → c ≤ n → count_before c (ks ++ n ∷ []) ≡ count_before c ks
count-push c n [] h = grind (arith, nat_tests)
count-push c n (k ∷ ks) h = let rest = count-push c n ks h in grind (arith, nat_tests, common_steps)

-- ---- reads

pub read_at_old : (rs : List Read) (r : Read) (p : ℕ) → p < length rs → read_at (rs ++ r ∷ []) p ≡ read_at rs p
read_at_old rs r p h = get_or-append rs (r ∷ []) (or_read None) p h

pub read_at_last : (rs : List Read) (r : Read) → read_at (rs ++ r ∷ []) (length rs) ≡ r
read_at_last rs r = get_or-append_seam rs r [] (or_read None)

reads-push : (rs : List Read) (ks : List ℕ) (n : ℕ) → reads_at rs (ks ++ n ∷ []) ≡ reads_at rs ks ++ read_at rs n ∷ []
reads-push rs [] n = refl
reads-push rs (k ∷ ks) n = ap (λ (xs : List Read). read_at rs k ∷ xs) (reads-push rs ks n)

-- one read more that is recorded changes nothing at the places of the others
pub reads_old : (rs : List Read) (r : Read) (ks : List ℕ) → Before ks (length rs) →
    reads_at (rs ++ r ∷ []) ks ≡ reads_at rs ks
reads_old rs r [] h = refl
reads_old rs r (k ∷ ks) h =
    let here : read_at (rs ++ r ∷ []) k ≡ read_at rs k = read_at_old rs r k (h k (among_head k ks)) in
    let rest : reads_at (rs ++ r ∷ []) ks ≡ reads_at rs ks = reads_old rs r ks (before_tail k (length rs) ks h) in
    cc

-- at its own place it is the last one
pub reads_more : (rs : List Read) (r : Read) (ks : List ℕ) → Before ks (length rs)
    → reads_at (rs ++ r ∷ []) (ks ++ length rs ∷ []) ≡ reads_at rs ks ++ r ∷ []
reads_more rs r ks h =
    let old = reads_old rs r ks h in
    let last = read_at_last rs r in
    reads-push (rs ++ r ∷ []) ks (length rs) ∙ cc

-- ---- the read of an object

pub same_or_not : (a b : ℕ) → (a ≡ b) ⊎ (a ≢ b)
same_or_not a b = grind arith

-- no read at some places is of the object
abbrev pub NoneOf : ℕ → List Read → List ℕ → Type 0
NoneOf o rs ks = (q : ℕ) → is_among q ks ≡ true → (read_at rs q).object ≢ o

-- and one alone
pub record OneOf (o : ℕ) (rs : List Read) (ks : List ℕ) (p : ℕ) : Type 0 where
  pub among : is_among p ks ≡ true
  pub object : (read_at rs p).object ≡ o
  pub alone : (q : ℕ) → is_among q ks ≡ true → (read_at rs q).object ≡ o → q ≡ p

test_yes : (a b : ℕ) → a ≡ b → (a == b) ≡ true
test_yes a b h = grind (arith, nat_tests)

test_no : (a b : ℕ) → a ≢ b → (a == b) ≡ false
test_no a b h = grind (arith, nat_tests)

pub none_found : (o : ℕ) (rs : List Read) (ks : List ℕ) → NoneOf o rs ks → read_of o (reads_at rs ks) ≡ None
none_found o rs [] h = refl
none_found o rs (k ∷ ks) h =
    let here = test_no (read_at rs k).object o (h k (among_head k ks)) in
    rw here (none_found o rs ks (λ q a. h q (among_tail q k ks a)))

pub none_dropped : (o : ℕ) (rs : List Read) (ks : List ℕ) → NoneOf o rs ks →
    drop_read o (reads_at rs ks) ≡ reads_at rs ks
none_dropped o rs [] h = refl
none_dropped o rs (k ∷ ks) h =
    let here = test_no (read_at rs k).object o (h k (among_head k ks)) in
    rw here (ap (λ (xs : List Read). read_at rs k ∷ xs) (none_dropped o rs ks (λ q a. h q (among_tail q k ks a))))

one_tail : {o : ℕ} {rs : List Read} (k : ℕ) (ks : List ℕ) {p : ℕ} → OneOf o rs (k ∷ ks) p →
    (read_at rs k).object ≢ o → OneOf o rs ks p
one_tail {rs = rs} k ks {p = p} h n = record {
  among = among_other p k ks h.among (λ e. n (ap (λ (q : ℕ). (read_at rs q).object) (sym e) ∙ h.object));
  object = h.object;
  alone = λ q a. h.alone q (among_tail q k ks a);
}

pub one_found : {o : ℕ} {rs : List Read} {ks : List ℕ} {p : ℕ} → OneOf o rs ks p →
    read_of o (reads_at rs ks) ≡ Some (read_at rs p)
one_found {ks = []} h = absurd (let a = h.among in cc)
one_found {o = o} {rs = rs} {ks = (k ∷ ks)} {p = p} h = elim (same_or_not (read_at rs k).object o) [
  | inl e ↦
      let here = test_yes (read_at rs k).object o e in
      rw here (ap (λ (q : ℕ). Some (read_at rs q)) (h.alone k (among_head k ks) e))
  | inr n ↦ let here = test_no (read_at rs k).object o n in rw here (one_found (one_tail k ks h n))
]

remove_here : (p k : ℕ) (ks : List ℕ) → k ≡ p → remove_key (is_at (nat_cmp p)) (k ∷ ks) ≡ ks
remove_here p k ks h = grind (arith, nat_tests)

remove_other : (p k : ℕ) (ks : List ℕ) → p ≢ k →
    remove_key (is_at (nat_cmp p)) (k ∷ ks) ≡ k ∷ remove_key (is_at (nat_cmp p)) ks
remove_other p k ks h = grind (arith, nat_tests)

-- without the place of an object's read, that read is dropped
pub one_dropped : {o : ℕ} {rs : List Read} {ks : List ℕ} {p : ℕ} → OneOf o rs ks p
    → reads_at rs (remove_key (is_at (nat_cmp p)) ks) ≡ drop_read o (reads_at rs ks)
one_dropped {ks = []} h = absurd (let a = h.among in cc)
one_dropped {o = o} {rs = rs} {ks = (k ∷ ks)} {p = p} h = go (same_or_not (read_at rs k).object o) (one_dropped)
  where
    go : ((read_at rs k).object ≡ o) ⊎ ((read_at rs k).object ≢ o)
        → (OneOf o rs ks p → reads_at rs (remove_key (is_at (nat_cmp p)) ks) ≡ drop_read o (reads_at rs ks))
        → reads_at rs (remove_key (is_at (nat_cmp p)) (k ∷ ks)) ≡ drop_read o (reads_at rs (k ∷ ks))
    go (inl e) f =
        let here = test_yes (read_at rs k).object o e in
        let gone = remove_here p k ks (h.alone k (among_head k ks) e) in
        rw (here, gone) refl
    go (inr n) f =
        let here = test_no (read_at rs k).object o n in
        let other : p ≢ k = λ e. n (ap (λ (q : ℕ). (read_at rs q).object) (sym e) ∙ h.object) in
        rw (here, remove_other p k ks other) (ap (λ (xs : List Read). read_at rs k ∷ xs) (f (one_tail k ks h n)))
