-- Where a round has a row some worker has jobs left before it, in a run whose rows are good.
use Rattle.std.proofs.Common.{◌≡◌, ◌==◌, ◌||◌, ◌⊎◌, ℕ, suc, zero, ◌+◌, ◌<◌, ◌≤◌, Bool, true, false, cond, not, List, [], ◌∷◌, ◌++◌, length, Option, Some, refl, ap, sym, subst, ◌∙◌, inl, inr, arith, true≢false, nat_lt}
use Rattle.std.specs.Prelude.{IfSome}
use Rattle.std.specs.List.{AllByRecursion, filter, find, list_any, range_with_len}
use Rattle.dstm_records.proofs.Base.{IsBefore, IsGoodRow, IsJob, IsValidWorkload, Job, Row, RowsAreGood, Workload, cases_Bool, cases_eq, eqb-true, has_job, is_named, jobs_left, last_row, left_by, lt-ltb, ltb-true, ne_eqb, not_from_false, rows_in, workers_left}
use Rattle.std.proofs.lemmas.List.Elements.{recursion_from_All}
use Rattle.std.proofs.lemmas.Option.{none-some}
use Rattle.dstm_report.proofs.Rising.{each-filter, first_own, found_holds}
use Rattle.dstm_records.proofs.Told.{last_push}

-- ---- some of a list passes a test

module _ {X : Type 0} (p : X → Bool) where
  any_later : (x : X) (xs : List X) → list_any p xs ≡ true → list_any p (x ∷ xs) ≡ true
  any_later x xs some = elim (p x) as (λ b. (b || list_any p xs) ≡ true) [ true ↦ refl | false ↦ some ]

  any_kept : (b : Bool) (x : X) (xs : List X) → list_any p xs ≡ true → list_any p (cond b (x ∷ xs) xs) ≡ true
  any_kept true x xs some = any_later x xs some
  any_kept false x xs some = some

  any_cases : (x : X) (xs : List X) → list_any p (x ∷ xs) ≡ true → (p x ≡ true) ⊎ (list_any p xs ≡ true)
  any_cases x xs = elim (p x) as (λ b. (b || list_any p xs) ≡ true → (b ≡ true) ⊎ (list_any p xs ≡ true)) [
    | true ↦ λ some. inl refl
    | false ↦ λ some. inr some
  ]

  any_first : (x : X) (xs : List X) → p x ≡ true → list_any p (x ∷ xs) ≡ true
  any_first x xs is = rw is refl

  any_left : (xs ys : List X) → list_any p xs ≡ true → list_any p (xs ++ ys) ≡ true
  any_left [] ys some = absurd (true≢false (sym some))
  any_left (x ∷ xs) ys some =
      elim (any_cases x xs some) [
        | inl is ↦ any_first x (xs ++ ys) is
        | inr rest ↦ any_later x (xs ++ ys) (any_left xs ys rest)
      ]

  any_right : (xs ys : List X) → list_any p ys ≡ true → list_any p (xs ++ ys) ≡ true
  any_right [] ys some = some
  any_right (x ∷ xs) ys some = any_later x (xs ++ ys) (any_right xs ys some)

  any_either : (xs ys : List X) → list_any p (xs ++ ys) ≡ true → (list_any p xs ≡ true) ⊎ (list_any p ys ≡ true)
  any_either [] ys some = inr some
  any_either (x ∷ xs) ys some =
      elim (any_cases x (xs ++ ys) some) [
        | inl is ↦ inl (any_first x xs is)
        | inr rest ↦ elim (any_either xs ys rest) [ inl before ↦ inl (any_later x xs before) | inr behind ↦ inr behind ]
      ]

  -- what more pass than pass another test
  any_more : (q r : X → Bool) → ((x : X) → q x ≡ true → r x ≡ true) → (xs : List X) → list_any p (filter q xs) ≡ true →
      list_any p (filter r xs) ≡ true
  any_more q r implies [] some = some
  any_more q r implies (x ∷ xs) some = by (any_more q r implies xs) (cases_Bool (q x))
    where
      by : (list_any p (filter q xs) ≡ true → list_any p (filter r xs) ≡ true) → (q x ≡ true) ⊎ (q x ≡ false) →
          list_any p (filter r (x ∷ xs)) ≡ true
      by ih (inl kept) =
          let here : list_any p (x ∷ filter q xs) ≡ true = rw kept at some in
          subst (λ b. list_any p (cond b (x ∷ filter r xs) (filter r xs)) ≡ true) (sym (implies x kept))
          (elim (any_cases x (filter q xs) here) [
            | inl is ↦ any_first x (filter r xs) is
            | inr rest ↦ any_later x (filter r xs) (ih rest)
          ])
      by ih (inr dropped) =
          let rest : list_any p (filter q xs) ≡ true = rw dropped at some in any_kept (r x) x (filter r xs) (ih rest)

find_any : (p : Job → Bool) (jobs : List Job) (job : Job) → find p jobs ≡ Some job → list_any p jobs ≡ true
find_any p [] job = λ is. absurd (none-some job is)
find_any p (first ∷ jobs) job =
    elim (p first) as (λ b. cond b (Some first) (find p jobs) ≡ Some job → (b || list_any p jobs) ≡ true) [
      | true ↦ λ is. refl
      | false ↦ λ is. find_any p jobs job is
    ]

-- ---- the rows of earlier rounds

abbrev Named : List Row → Job → Type 0
Named rows job = is_named rows job ≡ true

abbrev names : Job → Row → Bool
names job row = row.line == job.line

abbrev pub earlier : ℕ → List Row → List Row
earlier round rows = filter (λ row. nat_lt row.round round) rows

not_lt : (a b : ℕ) → b ≤ a → nat_lt a b ≡ true → ⊥
not_lt a b le is = let lt = ltb-true a b is in omega (arith, le, lt)

-- behind a row of a round no row is of an earlier one
late : (workload : Workload) (round : ℕ) (front rest : List Row) → RowsAreGood workload front rest → (previous : Row) →
    last_row front ≡ Some previous → round ≤ previous.round → (job : Job) → Named (earlier round rest) job → ⊥
late workload round front [] good previous last le job = λ some. true≢false (sym some)
late workload round front (row ∷ rest) good previous last le job =
    elim (cases_Bool (nat_lt row.round round)) [
      | inl lt ↦ λ some. not_lt row.round round not_before lt
      | inr ge ↦ λ some.
          late workload round (front ++ row ∷ []) rest good.1 row (last_push front row) not_before job
          (let e : Named (earlier round rest) job = rw ge at some in e)
    ]
  where
    is_before : IsBefore previous row
    is_before = subst (λ (o : Option Row). IfSome o (λ p. IsBefore p row)) last good.0.number

    not_before : round ≤ row.round
    not_before = elim is_before [
      | inl sooner ↦ omega (arith, sooner, le)
      | inr same ↦ let is = same.0 in omega (arith, is, le)
    ]

-- The first row of a round: the rows ahead of it have all that earlier rounds have.
record Turn (workload : Workload) (round : ℕ) (front rest : List Row) : Type 0 where
  pub row : Row
  pub ahead : List Row
  pub good : IsGoodRow workload ahead row
  pub has_front : (job : Job) → Named front job → Named ahead job
  pub has_earlier : (job : Job) → Named (earlier round rest) job → Named ahead job

turn : (workload : Workload) (round : ℕ) (front rest : List Row) → RowsAreGood workload front rest →
    0 < length (rows_in round rest) → Turn workload round front rest
turn workload round front [] good some = absurd (omega (arith, some))
turn workload round front (row ∷ rest) good some =
    by (λ more. turn workload round (front ++ row ∷ []) rest good.1 more) (cases_eq row.round round)
  where
    behind : row.round ≡ round → (job : Job) → Named (earlier round (row ∷ rest)) job → ⊥
    behind here job =
        elim (cases_Bool (nat_lt row.round round)) [
          | inl lt ↦ λ named. not_lt row.round round (omega (arith, here)) lt
          | inr ge ↦ λ named.
              late workload round (front ++ row ∷ []) rest good.1 row (last_push front row) (omega (arith, here)) job
              (let e : Named (earlier round rest) job = rw ge at named in e)
        ]

    ahead : (ahead : List Row) → ((job : Job) → Named (front ++ row ∷ []) job → Named ahead job) →
        ((job : Job) → Named (earlier round rest) job → Named ahead job) → (job : Job) →
        Named (earlier round (row ∷ rest)) job → Named ahead job
    ahead rows has more job =
        elim (cases_Bool (nat_lt row.round round)) [
          | inl lt ↦ λ named.
              let both : Named (row ∷ earlier round rest) job = rw lt at named in
              elim (any_cases (names job) row (earlier round rest) both) [
                | inl is ↦ has job (any_right (names job) front (row ∷ []) (any_first (names job) row [] is))
                | inr later ↦ more job later
              ]
          | inr ge ↦ λ named. more job (let e : Named (earlier round rest) job = rw ge at named in e)
        ]

    by : (0 < length (rows_in round rest) → Turn workload round (front ++ row ∷ []) rest) →
        (row.round ≡ round) ⊎ (row.round ≡ round → ⊥) → Turn workload round front (row ∷ rest)
    by next (inl here) = record {
      row = row;
      ahead = front;
      good = good.0;
      has_front = λ job named. named;
      has_earlier = λ job named. absurd (behind here job named);
    }
    by next (inr other) =
        let t = next (let more : 0 < length (rows_in round rest) = rw (ne_eqb row.round round other) at some in more) in record {
          row = t.row;
          ahead = t.ahead;
          good = t.good;
          has_front = λ job named. t.has_front job (any_left (names job) front (row ∷ []) named);
          has_earlier = ahead t.ahead t.has_front t.has_earlier;
        }

-- ---- a worker with jobs left

-- numbers from one on have some that pass, where one of them passes
pub filter_some : (p : ℕ → Bool) (a n w : ℕ) → a ≤ w → w < a + n → p w ≡ true → 0 < length (filter p (range_with_len a n))
filter_some p a zero w low high is = absurd (omega (arith, low, high))
filter_some p a (suc n) w low high is =
    by (λ more. filter_some p (a + 1) n w more (omega (arith, high)) is) (cases_eq a w)
  where
    longer : (b : Bool) (xs : List ℕ) → 0 < length xs → 0 < length (cond b (a ∷ xs) xs)
    longer true xs some = omega arith
    longer false xs some = some

    by : (a + 1 ≤ w → 0 < length (filter p (range_with_len (a + 1) n))) → (a ≡ w) ⊎ (a ≡ w → ⊥) →
        0 < length (filter p (range_with_len a (suc n)))
    by rest (inl here) =
        subst (λ b. 0 < length (cond b (a ∷ filter p (range_with_len (a + 1) n)) (filter p (range_with_len (a + 1) n))))
        (sym (ap p here ∙ is)) (omega arith)
    by rest (inr other) = longer (p a) (filter p (range_with_len (a + 1) n)) (rest (omega (arith, low, other)))

-- rows name no more than those of earlier rounds
abbrev pub AreEarlier : List Row → ℕ → List Row → Type 0
AreEarlier rows round before = (job : Job) → Named before job → Named (earlier round rows) job

pub earlier_none : (rows : List Row) (round : ℕ) → AreEarlier rows round []
earlier_none rows round job named = absurd (true≢false (sym named))

pub earlier_more : (rows : List Row) (round : ℕ) (before : List Row) → AreEarlier rows round before →
    AreEarlier rows (round + 1) (before ++ rows_in round rows)
earlier_more rows round before are job named =
    elim (any_either (names job) before (rows_in round rows) named) [
      | inl old ↦
          any_more (names job) (λ (row : Row). nat_lt row.round round) (λ (row : Row). nat_lt row.round (round + 1))
          (λ row lt. lt-ltb row.round (round + 1) (let e = ltb-true row.round round lt in omega (arith, e))) rows (are job old)
      | inr new ↦
          any_more (names job) (λ (row : Row). row.round == round) (λ (row : Row). nat_lt row.round (round + 1))
          (λ row is. lt-ltb row.round (round + 1) (let e = eqb-true row.round round is in omega (arith, e))) rows new
    ]

each_within : (workload : Workload) (jobs : List Job) → AllByRecursion (IsJob workload) jobs →
    AllByRecursion (λ job. job.worker < workload.workers) jobs
each_within workload [] all = tt
each_within workload (job ∷ jobs) all = (all.0.worker, each_within workload jobs all.1)

pub some_left : {workload : Workload} (rows : List Row) (round : ℕ) (before : List Row) → IsValidWorkload workload →
    RowsAreGood workload [] rows → AreEarlier rows round before → 0 < length (rows_in round rows) →
    0 < length (workers_left workload before)
some_left {workload = workload} rows round before valid good are some =
    filter_some (has_job (left_by workload before)) 0 workload.workers t.row.worker (omega arith) within has
  where
    t : Turn workload round [] rows
    t = turn workload round [] rows good some

    within : t.row.worker < 0 + workload.workers
    within =
        let inside : t.good.job.worker < workload.workers =
        subst (λ (o : Option Job). IfSome o (λ job. job.worker < workload.workers)) t.good.turn
        (found_holds (λ job. job.worker < workload.workers) _ (jobs_left workload.jobs t.ahead)
        (each-filter (λ job. job.worker < workload.workers) _ workload.jobs
        (each_within workload workload.jobs (recursion_from_All (IsJob workload) workload.jobs valid.each)))) in
        let own = first_own t.row.worker (jobs_left workload.jobs t.ahead) t.good.job t.good.turn in
        omega (arith, inside, own)

    unnamed : (job : Job) → not (is_named t.ahead job) ≡ true → not (is_named before job) ≡ true
    unnamed job free = elim (cases_Bool (is_named before job)) [
      | inl named ↦
          absurd (true≢false (sym free ∙ ap not (t.has_earlier job (are job named))))
      | inr none ↦ not_from_false (is_named before job) none
    ]

    has : has_job (left_by workload before) t.row.worker ≡ true
    has =
        any_more (λ (job : Job). job.worker == t.row.worker) (λ job. not (is_named t.ahead job))
        (λ job. not (is_named before job)) unnamed workload.jobs
        (find_any (λ (job : Job). job.worker == t.row.worker) (jobs_left workload.jobs t.ahead) t.good.job t.good.turn)
