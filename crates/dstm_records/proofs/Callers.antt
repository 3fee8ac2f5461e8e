-- Each caller of a round's table has made its events by calls.
use Rattle.std.proofs.Common.{◌≡◌, ◌==◌, ◌⊎◌, ℕ, suc, zero, ◌+◌, ◌<◌, ◌≤◌, Bool, true, false, cond, eqb, List, [], ◌∷◌, ◌++◌, length, map, refl, sym, subst, ◌∙◌, inl, inr, arith, true≢false}
use Rattle.std.specs.Prelude.{IfSome}
use Rattle.std.specs.List.{AllByRecursion, Contains, IsDistinct, filter, list_any, range_with_len, slice_get}
use Rattle.dstm_records.proofs.Base.{AreRoundsOf, IsParallel, IsRoundOf, IsValidWorkload, Options, Round, Row, RowsAreGood, Val, Workload, callers_of, cases_Bool, cases_eq, eq-eqb, has_job, is_parallel, left_by, ne_eqb, rows_in, seed_for, values_of, workers_in, workers_left}
use Rattle.std.proofs.lemmas.List.{length-map}
use Rattle.std.proofs.lemmas.Map.Steps.{length-le_from_distinct_below}
use Rattle.std.proofs.lemmas.List.Elements.{All-contains, All-from_recursion}
use Rattle.dstm_store.specs.Opening.{opening_values}
use Rattle.dstm_tables.specs.Tells.{ByCalls}
use Rattle.dstm_jobs.specs.Tables as known
use Rattle.dstm_records.specs.Laws.{EachIsByCalls, OfEachCaller}
use Rattle.dstm_records.specs.Records.{IsAlone}
use Rattle.dstm_records.proofs.WorkersLeft.{AreEarlier, earlier_more, earlier_none, some_left}

-- ---- the workers of a round differ

pub range_above : (low a n : ℕ) → low ≤ a → AllByRecursion (λ m. low ≤ m) (range_with_len a n)
range_above low a zero le = tt
range_above low a (suc n) le = (le, range_above low (a + 1) n (omega (arith, le)))

unlike : (a : ℕ) (xs : List ℕ) → AllByRecursion (λ m. a + 1 ≤ m) xs → AllByRecursion (λ m. eqb a m ≡ false) xs
unlike a [] above = tt
unlike a (x ∷ xs) above = (ne_eqb a x (λ same. let h = above.0 in omega (arith, h, same)), unlike a xs above.1)

distinct_range : (a n : ℕ) → IsDistinct eqb (range_with_len a n)
unfolding IsDistinct
distinct_range a zero = tt
distinct_range a (suc n) =
    (unlike a (range_with_len (a + 1) n) (range_above (a + 1) (a + 1) n (omega arith)), distinct_range (a + 1) n)

pub filter_all : (P : ℕ → Type 0) (p : ℕ → Bool) (xs : List ℕ) → AllByRecursion P xs → AllByRecursion P (filter p xs)
filter_all P p [] all = tt
filter_all P p (x ∷ xs) all =
    elim (p x) as (λ b. AllByRecursion P (cond b (x ∷ filter p xs) (filter p xs))) [
      | true ↦ (all.0, filter_all P p xs all.1)
      | false ↦ filter_all P p xs all.1
    ]

distinct_filter : (p : ℕ → Bool) (xs : List ℕ) → IsDistinct eqb xs → IsDistinct eqb (filter p xs)
unfolding IsDistinct
distinct_filter p [] distinct = tt
distinct_filter p (x ∷ xs) distinct =
    elim (p x) as (λ b. IsDistinct eqb (cond b (x ∷ filter p xs) (filter p xs))) [
      | true ↦ (filter_all (λ m. eqb x m ≡ false) p xs distinct.0, distinct_filter p xs distinct.1)
      | false ↦ distinct_filter p xs distinct.1
    ]

workers_differ : (workload : Workload) (number : ℕ) (before : List Row) → IsDistinct eqb (workers_in workload number before)
workers_differ workload number before =
    elim (number == 0) as (λ b. IsDistinct eqb (cond b (range_with_len 0 workload.workers) (workers_left workload before))) [
      | true ↦ distinct_range 0 workload.workers
      | false ↦
          distinct_filter (has_job (left_by workload before)) (range_with_len 0 workload.workers)
          (distinct_range 0 workload.workers)
    ]

range_below : (a n m : ℕ) → a + n ≤ m → AllByRecursion (λ w. w < m) (range_with_len a n)
range_below a zero m le = tt
range_below a (suc n) m le = (omega (arith, le), range_below (a + 1) n m (omega (arith, le)))

workers_below : (workload : Workload) (number : ℕ) (before : List Row) →
    AllByRecursion (λ w. w < workload.workers) (workers_in workload number before)
workers_below workload number before =
    elim (number == 0) as (λ b. AllByRecursion (λ w. w < workload.workers)
    (cond b (range_with_len 0 workload.workers) (workers_left workload before))) [
      | true ↦ range_below 0 workload.workers workload.workers (omega arith)
      | false ↦
          filter_all (λ w. w < workload.workers) (has_job (left_by workload before)) (range_with_len 0 workload.workers)
          (range_below 0 workload.workers workload.workers (omega arith))
    ]

-- ---- so many workers have so many callers

contains_more : (x y : ℕ) (xs : List ℕ) → Contains xs y → Contains (x ∷ xs) y
contains_more x y xs there = (suc there.0, let within = there.1 in omega (arith, within), there.2)

module _ (f : ℕ → ℕ) where
  abbrev Found : (ws : List ℕ) (c : ℕ) → Type 0
  Found ws c = (w : ℕ) × Contains ws w × (f w ≡ c)

  find_worker : (ws : List ℕ) (c : ℕ) → Found ws c ⊎ AllByRecursion (λ m. eqb c m ≡ false) (map f ws)
  find_worker [] c = inr tt
  find_worker (w ∷ ws) c = by (cases_eq (f w) c) (find_worker ws c)
    where
      by : (f w ≡ c) ⊎ (f w ≡ c → ⊥) → Found ws c ⊎ AllByRecursion (λ m. eqb c m ≡ false) (map f ws) →
          Found (w ∷ ws) c ⊎ AllByRecursion (λ m. eqb c m ≡ false) (map f (w ∷ ws))
      by (inl here) rest = inl (w, (0, omega arith, refl), here)
      by (inr other) (inl there) = inl (there.0, contains_more w there.0 ws there.1, there.2)
      by (inr other) (inr none) = inr (ne_eqb c (f w) (λ same. other (sym same)), none)

  apart_there : (w : ℕ) (ws : List ℕ) → AllByRecursion (λ m. eqb w m ≡ false) ws →
      ((other : ℕ) → Contains ws other → f w ≡ f other → w ≡ other) → AllByRecursion (λ m. eqb (f w) m ≡ false) (map f ws)
  apart_there w [] apart one = tt
  apart_there w (x ∷ ws) apart one = (
    ne_eqb (f w) (f x) (λ same. true≢false (sym (eq-eqb w x (one x (0, omega arith, refl) same)) ∙ apart.0)),
    apart_there w ws apart.1 (λ other there. one other (contains_more x other ws there)),
  )

  distinct_callers : (ws : List ℕ) → IsDistinct eqb ws →
      ((one other : ℕ) → Contains ws one → Contains ws other → f one ≡ f other → one ≡ other) → IsDistinct eqb (map f ws)
  unfolding IsDistinct
  distinct_callers [] distinct apart = tt
  distinct_callers (w ∷ ws) distinct apart = (
    apart_there w ws distinct.0 (λ other there. apart w other (0, omega arith, refl) (contains_more w other ws there)),
    distinct_callers ws distinct.1 (λ one other here there.
        apart one other (contains_more w one ws here) (contains_more w other ws there)),
  )

  all_below : (ws : List ℕ) (n : ℕ) → ((w : ℕ) → Contains ws w → f w < n) → AllByRecursion (λ m. m < n) (map f ws)
  all_below [] n below = tt
  all_below (w ∷ ws) n below =
      (below w (0, omega arith, refl), all_below ws n (λ v there. below v (contains_more w v ws there)))

-- a number among numbers below this is below it
pub is_below : (ns : List ℕ) (n q : ℕ) → AllByRecursion (λ m. m < n) ns → list_any (eqb q) ns ≡ true → q < n
is_below [] n q below some = absurd (true≢false (sym some))
is_below (m ∷ ns) n q below some = by (cases_eq q m) (is_below ns n q below.1)
  where
    by : (q ≡ m) ⊎ (q ≡ m → ⊥) → (list_any (eqb q) ns ≡ true → q < n) → q < n
    by (inl same) rest = let b = below.0 in omega (arith, b, same)
    by (inr other) rest =
        rest (sym (let e : list_any (eqb q) (m ∷ ns) ≡ list_any (eqb q) ns = rw (ne_eqb q m other) refl in e) ∙ some)

distinct_more : (c : ℕ) (ns : List ℕ) → AllByRecursion (λ m. eqb c m ≡ false) ns → IsDistinct eqb ns → IsDistinct eqb (c ∷ ns)
unfolding IsDistinct
distinct_more c ns none distinct = (none, distinct)

-- each caller is that of a worker
has_worker : (f : ℕ → ℕ) (ws : List ℕ) (n c : ℕ) → IsDistinct eqb ws → length ws ≡ n →
    ((w : ℕ) → Contains ws w → f w < n) →
    ((one other : ℕ) → Contains ws one → Contains ws other → f one ≡ f other → one ≡ other) → c < n →
    (w : ℕ) × Contains ws w × (f w ≡ c)
has_worker f ws n c distinct count below apart within = elim (find_worker f ws c) [
  | inl found ↦ found
  | inr none ↦
      absurd (let few : suc (length (map f ws)) ≤ n = length-le_from_distinct_below (c ∷ map f ws) n
      (distinct_more c (map f ws) none (distinct_callers f ws distinct apart))
      (λ q some. is_below (c ∷ map f ws) n q (within, all_below f ws n below) some) in
      let same = length-map ws f in omega (arith, few, same, count))
]

-- ---- in a round

module _ (workload : Workload) (options : Options) (number : ℕ) (before rows : List Row) (round : Round) where
  abbrev HasCalls : ℕ → Type 0
  HasCalls c = (worker : ℕ) × (worker < workload.workers) × ByCalls (seed_for options worker) round c

  in_parallel : IsParallel workload options number before rows round → (c : ℕ) → c < callers_of round → HasCalls c
  in_parallel parallel c within =
      let paired = parallel.paired in
      let found = has_worker parallel.caller (workers_in workload number before) (callers_of round) c
      (workers_differ workload number before) paired.count paired.within paired.apart within in (
        found.0,
        All-contains (λ w. w < workload.workers) (workers_in workload number before) found.0
            (All-from_recursion (λ w. w < workload.workers) (workers_in workload number before)
            (workers_below workload number before)) found.1,
        subst (ByCalls (seed_for options found.0) round) found.2 (parallel.calls found.0 found.1),
      )

  least_worker : (ws : List ℕ) → AllByRecursion (λ w. w < workload.workers) ws → 0 < length ws →
      IfSome (slice_get ws 0) (λ worker. ByCalls (seed_for options worker) round 0) → HasCalls 0
  least_worker [] below some calls = absurd (omega (arith, some))
  least_worker (w ∷ ws) below some calls = (w, below.0, calls)

  in_alone : IsAlone workload options before rows round → 0 < length (workers_left workload before) → (c : ℕ) →
      c < callers_of round → HasCalls c
  in_alone alone some c within =
      let only = alone.one_caller in
      subst HasCalls (let first : 0 ≡ c = omega (arith, within, only) in first)
      (least_worker (workers_left workload before)
      (filter_all (λ w. w < workload.workers) (has_job (left_by workload before)) (range_with_len 0 workload.workers)
      (range_below 0 workload.workers workload.workers (omega arith))) some alone.calls)

-- what holds of each caller by calls of a table's run holds of each caller of a round
module _ (Says : (seed : ℕ) → Round → ℕ → Type 0)
    (holds : (seed : ℕ) (round : Round) (c : ℕ) → known.IsRun round → ByCalls seed round c → Says seed round c)
    (workload : Workload) (options : Options) where
  abbrev SaysOfEach : Round → Type 0
  SaysOfEach round =
      (c : ℕ) → c < callers_of round → (worker : ℕ) × (worker < workload.workers) × Says (seed_for options worker) round c

  of_round : {number : ℕ} {before rows : List Row} {values : List Val} {round : Round} →
      IsRoundOf workload options number before rows values round →
      (is_parallel number ≡ false → 0 < length (workers_left workload before)) → SaysOfEach round
  of_round {number = number} {before = before} {rows = rows} {round = round} is some c within =
      let by = has_calls (cases_Bool (is_parallel number)) in (by.0, by.1, holds (seed_for options by.0) round c is.run.run by.2)
    where
      has_calls : (is_parallel number ≡ true) ⊎ (is_parallel number ≡ false) → HasCalls workload options number before rows round c
      has_calls (inl beside) = in_parallel workload options number before rows round (is.parallel beside) c within
      has_calls (inr alone) = in_alone workload options number before rows round (is.alone alone) (some alone) c within

  module _ (valid : IsValidWorkload workload) (rows : List Row) (good : RowsAreGood workload [] rows) where
    of_rounds : (rounds : List Round) (number : ℕ) (before : List Row) (values : List Val) → AreEarlier rows number before →
        AreRoundsOf workload options rows number before values rounds → AllByRecursion SaysOfEach rounds
    of_rounds [] number before values are each = tt
    of_rounds (round ∷ rounds) number before values are each = (
      of_round each.0
          (λ alone. some_left rows number before valid good are (each.0.alone alone).some_row),
      of_rounds rounds (number + 1) (before ++ rows_in number rows) (values_of round)
          (earlier_more rows number before are) each.1,
    )

-- and of each caller of a run
pub of_each : (Says : (seed : ℕ) → Round → ℕ → Type 0) →
    ((seed : ℕ) (round : Round) (c : ℕ) → known.IsRun round → ByCalls seed round c → Says seed round c) → OfEachCaller Says
of_each Says holds workload options rounds valid first =
    All-from_recursion (SaysOfEach Says holds workload options) rounds
    (of_rounds Says holds workload options valid first.rows first.good rounds 0 [] (opening_values workload.layout)
    (earlier_none first.rows 0) first.each)

pub each_is_by_calls : EachIsByCalls
each_is_by_calls = of_each ByCalls (λ seed round c run by. by)
