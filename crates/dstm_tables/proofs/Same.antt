-- What a caller that goes on has of its table.
use Rattle.std.proofs.Common.{◌≡◌, ◌∙◌, ◌<◌, ◌+◌, ◌≤◌, ◌∷◌, ℕ, List, [], true, refl, sym, ap, subst, arith, true≢false, append-nil}
use Rattle.std.specs.List.{AllByRecursion}
use Rattle.std.proofs.lemmas.Bool.{eq-eqb, le-ltb, lt-ltb}
use Rattle.dstm_model.specs.Answers.{Committed, by_caller}
use Rattle.dstm_core.specs.declared.shape.Shape.{Shape}
use Rattle.dstm_core.specs.Runs as core_runs
use Rattle.dstm_core.specs.State as core
use Rattle.dstm_order.specs.Order.{is_spent}
use Rattle.dstm_words.specs.declared.terms.Terms as core_terms
use Rattle.dstm_tl2.specs.Runs as tl2_runs
use Rattle.dstm_tl2.specs.Sharing.{table_of}
use Rattle.dstm_tl2.specs.State as tl2
use Rattle.dstm_tl2.specs.Words as tl2_words
use Rattle.dstm_tl2.specs.declared.terms.Terms as tl2_terms
use Rattle.dstm_tl2_order.specs.Order as tl2_order
use Rattle.dstm_tables.specs.declared.founding.Founder.{Founder}
use Rattle.dstm_tables.specs.declared.founding.Founder.TheVariants as founder
use Rattle.dstm_tables.specs.declared.tables.Caller.{Caller}
use Rattle.dstm_tables.specs.declared.tables.Caller.TheVariants as caller
use Rattle.dstm_tables.specs.declared.tables.Round.{Round}
use Rattle.dstm_tables.specs.declared.tables.Round.TheVariants.{Dstm, Tl2}
use Rattle.dstm_tables.specs.declared.tables.Table.{Table}
use Rattle.dstm_tables.specs.Callers.{AtRest, home_of, law_of, number_of, round_of}
use Rattle.dstm_tables.specs.Founders.{first_of, home_there, seen_by}
use Rattle.dstm_tables.specs.Tells.{CannotBegin, HasLocators, IsPast, IsRun, all_done, attempts_of, begun_of, callers_of, done_of, law_told, start_of, used_by, writes_all}
use Rattle.dstm_tables.specs.Tries.{GoesOn}
use Rattle.dstm_tables.proofs.History.{is_history}
use Rattle.dstm_tables.proofs.ByTl2.{tl2_number_below}
use Rattle.dstm_tables.proofs.StayingByDstm as staying
use Rattle.dstm_model.specs.declared.value.Val.{Val}

all_of_one : (n : ℕ) (ds : List Committed) → n ≡ 1 → AllByRecursion (λ done. done.caller < n) ds → by_caller 0 ds ≡ ds
all_of_one n [] one all = refl
all_of_one n (d ∷ ds) one all =
    let own : d.caller ≡ 0 = let below = all.0 in omega (arith, one, below) in
    rw (eq-eqb d.caller 0 own) (ap (λ (cs : List Committed). d ∷ cs) (all_of_one n ds one all.1))

-- a caller with an attempt and enough locators can begin another one
dstm_can : (s : Shape) (l : core.LocalState) → l.begun < s.attempts → l.installed + s.objects ≤ s.locators →
    is_spent s l ≡ true → ⊥
dstm_can s l less enough spent =
    true≢false (sym spent ∙ rw (lt-ltb l.begun s.attempts less, le-ltb s.locators (l.installed + s.objects) enough) refl)

tl2_can : (t : tl2_words.Table) (l : tl2.LocalState) → l.begun < t.attempts → tl2_order.is_spent t l ≡ true → ⊥
tl2_can t l less spent = true≢false (sym spent ∙ rw (lt-ltb l.begun t.attempts less) refl)

module _ {L : Type 0} where
  -- what a table was told stays, under each engine
  pub start_past : (a b : Round L) → IsPast a b → start_of b ≡ start_of a
  start_past (Dstm a) (Dstm b) past = ap (λ (t : core_terms.Terms L). t.start.value.items) past.0
  start_past (Tl2 a) (Tl2 b) past = ap (λ (t : tl2_terms.Terms L). t.start.value.items) past.0
  start_past a b past = absurd past

  pub callers_past : (a b : Round L) → IsPast a b → callers_of b ≡ callers_of a
  callers_past (Dstm a) (Dstm b) past = ap (λ (t : core_terms.Terms L). t.shape.callers) past.0
  callers_past (Tl2 a) (Tl2 b) past = ap (λ (t : tl2_terms.Terms L). t.callers) past.0
  callers_past a b past = absurd past

  pub writes_past : (a b : Round L) → IsPast a b → writes_all b ≡ writes_all a
  writes_past (Dstm a) (Dstm b) past = ap (λ (t : core_terms.Terms L). t.shape.all_write) past.0
  writes_past (Tl2 a) (Tl2 b) past = refl
  writes_past a b past = absurd past

  pub locators_past : (a b : Round L) → IsPast a b → HasLocators a → HasLocators b
  locators_past (Dstm a) (Dstm b) past has = rw past.0 has
  locators_past (Tl2 a) (Tl2 b) past has = tt
  locators_past a b past has = absurd past

  pub law_past : (a b : Round L) → IsPast a b → law_told b ≡ law_told a
  law_past (Dstm a) (Dstm b) past = ap (λ (t : core_terms.Terms L). t.law.value) past.0
  law_past (Tl2 a) (Tl2 b) past = ap (λ (t : tl2_terms.Terms L). t.law.value) past.0
  law_past a b past = absurd past

  -- ---- what was known of a table at first

  pub first_past : (k : Caller L) (t : Table L) → home_of k ≡ t → IsPast (first_of t) (round_of k)
  first_past k t home = subst (λ (t : Table L). IsPast (first_of t) (round_of k)) home (by k)
    where
      by : (k : Caller L) → IsPast (first_of (home_of k)) (round_of k)
      by (caller.Dstm k) = (refl, record { later = k.log; whole = append-nil k.log })
      by (caller.Tl2 k) = (refl, record { later = k.log; whole = append-nil k.log })

  pub first_seen : (f : Founder L) (t : Table L) → home_there f ≡ t → IsPast (first_of t) (seen_by f)
  first_seen f t home = subst (λ (t : Table L). IsPast (first_of t) (seen_by f)) home (by f)
    where
      by : (f : Founder L) → IsPast (first_of (home_there f)) (seen_by f)
      by (founder.Dstm f) = (refl, record { later = f.view.log; whole = append-nil f.view.log })
      by (founder.Tl2 f) = (refl, record { later = f.view.log; whole = append-nil f.view.log })

  -- the law of a caller is its table's
  pub law_is : (k : Caller L) → law_told (round_of k) ≡ law_of k
  law_is (caller.Dstm k) = refl
  law_is (caller.Tl2 k) = refl

  pub can_begin : (r : Round L) (c : ℕ) → HasLocators r → used_by r c ≡ 0 → begun_of r c < attempts_of r → CannotBegin r c → ⊥
  can_begin (Dstm r) c locators none less spent = dstm_can r.terms.shape (core_runs.local r.terms.shape r.log c) less (omega (arith, none, locators)) spent
  can_begin (Tl2 r) c locators none less spent = tl2_can (table_of r.terms) (tl2_runs.local (table_of r.terms) r.log c) less spent

  module _ {holds : L → List Val → Type 0} where
    -- ---- a caller that goes on

    pub start_same : (k n : Caller L) → GoesOn holds k n → start_of (round_of n) ≡ start_of (round_of k)
    start_same k n on = start_past (round_of k) (round_of n) on.seen

    pub callers_same : (k n : Caller L) → GoesOn holds k n → callers_of (round_of n) ≡ callers_of (round_of k)
    callers_same k n on = callers_past (round_of k) (round_of n) on.seen

    pub writes_same : (k n : Caller L) → GoesOn holds k n → writes_all (round_of n) ≡ writes_all (round_of k)
    writes_same k n on = writes_past (round_of k) (round_of n) on.seen

    pub locators_same : (k n : Caller L) → GoesOn holds k n → HasLocators (round_of k) → HasLocators (round_of n)
    locators_same k n on = locators_past (round_of k) (round_of n) on.seen

    pub law_same : (k n : Caller L) → GoesOn holds k n → law_of n ≡ law_of k
    law_same (caller.Dstm k) (caller.Dstm n) on = ap (λ (t : core_terms.Terms L). t.law.value) on.seen.0
    law_same (caller.Tl2 k) (caller.Tl2 n) on = ap (λ (t : tl2_terms.Terms L). t.law.value) on.seen.0
    law_same k n on = absurd on.seen

    -- ---- an only caller

    pub number_below : (k : Caller L) → AtRest holds k → number_of k < callers_of (round_of k)
    number_below (caller.Dstm k) rest = (staying.in_range k rest).0
    number_below (caller.Tl2 k) rest = tl2_number_below k rest

  pub only_tells_all : (holds : L → List Val → Type 0) (r : Round L) → IsRun holds r → callers_of r ≡ 1 → all_done r ≡ done_of r 0
  only_tells_all holds r run one =
      let h = is_history holds r run in sym (all_of_one (callers_of r) (all_done r) one h.within) ∙ h.parts 0
