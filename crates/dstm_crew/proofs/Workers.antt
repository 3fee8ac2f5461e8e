-- The workers of a parallel round: they differ, there are few of them, and the others have no jobs left.
use Rattle.std.proofs.Common.{◌≡◌, ◌≢◌, ◌==◌, ◌⊎◌, ℕ, suc, zero, ◌+◌, ◌<◌, ◌≤◌, Bool, true, false, cond, not, ◌||◌, List, [], ◌∷◌, ◌++◌, length, map, get_or, max, refl, ap, sym, subst, ◌∙◌, inl, inr, arith, true≢false}
use Rattle.std.specs.List.{AllByRecursion, Contains, filter, range_with_len}
use Rattle.std.proofs.lemmas.Bool.{cases_Bool, cases_eq, eq-eqb, ne_eqb}
use Rattle.std.proofs.lemmas.List.{append-nil, length-map, map-append}
use Rattle.std.proofs.lemmas.List.Elements.{All-append, All-from_recursion, filter-append, recursion_from_All}
use Rattle.std.proofs.lemmas.List.FromFn.{length-range_with_len}
use Rattle.dstm_words.specs.Seats.{AreApart}
use Rattle.dstm_workload.specs.declared.workload.Job.{Job}
use Rattle.dstm_workload.specs.declared.workload.Workload.{Workload}
use Rattle.dstm_workload.specs.Workload.{IsJob, IsValidWorkload}
use Rattle.dstm_report.specs.declared.report.Row.{Row}
use Rattle.dstm_report.specs.Lawful.{is_named, jobs_left}
use Rattle.dstm_report.proofs.Rising.{each-filter}
use Rattle.dstm_report.specs.Turns.{job_at, jobs_of}
use Rattle.dstm_records.specs.Rounds.{all_workers, greatest, has_job, left_by, workers_in}
use Rattle.dstm_records.specs.Running.{count_left}
use Rattle.dstm_crew.specs.declared.share.Share.{Share}
use Rattle.dstm_crew.specs.Shares.{AreShares, IsOpen, takes_part, workers_of}
use Rattle.dstm_records.proofs.Callers.{filter_all, range_above}
use Rattle.dstm_crew.proofs.Jobs.{has_some}

-- ---- parts of a range

no_member : (a : ℕ) (xs : List ℕ) → AllByRecursion (λ m. a + 1 ≤ m) xs → Contains xs a → ⊥
no_member a [] all has = let within = has.1 in omega (arith, within)
no_member a (x ∷ xs) all has = by (no_member a xs all.1) has.0 has.1 has.2
  where
    by : (Contains xs a → ⊥) → (k : ℕ) → k < length (x ∷ xs) → get_or (x ∷ xs) k a ≡ a → ⊥
    by rest zero within is = let above = all.0 in omega (arith, is)
    by rest (suc k) within is = rest (k, omega (arith, within), is)

apart_range : (p : ℕ → Bool) (a n : ℕ) → AreApart (filter p (range_with_len a n))
apart_range p a zero = tt
apart_range p a (suc n) =
    elim (p a) as (λ b. AreApart (cond b (a ∷ filter p (range_with_len (a + 1) n)) (filter p (range_with_len (a + 1) n)))) [
      | true ↦ (
        no_member a (filter p (range_with_len (a + 1) n))
            (filter_all (λ m. a + 1 ≤ m) p (range_with_len (a + 1) n) (range_above (a + 1) (a + 1) n (omega arith))),
        apart_range p (a + 1) n,
      )
      | false ↦ apart_range p (a + 1) n
    ]

filter_few : (p : ℕ → Bool) (xs : List ℕ) → length (filter p xs) ≤ length xs
filter_few p [] = omega arith
filter_few p (x ∷ xs) =
    elim (p x) as (λ b. length (cond b (x ∷ filter p xs) (filter p xs)) ≤ suc (length xs)) [
      | true ↦ let rest = filter_few p xs in omega (arith, rest)
      | false ↦ let rest = filter_few p xs in omega (arith, rest)
    ]

pub range_more : (a n : ℕ) → range_with_len a (n + 1) ≡ range_with_len a n ++ (a + n) ∷ []
range_more a zero = ap (λ (m : ℕ). m ∷ []) (let e : a ≡ a + 0 = omega arith in e)
range_more a (suc n) =
    ap (range_with_len a) (let e : suc n + 1 ≡ suc (n + 1) = omega arith in e)
    ∙ ap (λ (ms : List ℕ). a ∷ ms)
    (range_more (a + 1) n ∙ ap (λ (m : ℕ). range_with_len (a + 1) n ++ m ∷ []) (let e : (a + 1) + n ≡ a + suc n = omega arith in e))

-- ---- the workers of a round

pub workers_apart_all : (workload : Workload) (number : ℕ) (left : List Job) → AreApart (workers_of workload number left)
workers_apart_all workload number left = apart_range (takes_part number left) 0 workload.workers

pub workers_few : (workload : Workload) (number : ℕ) (left : List Job) → workload.workers ≤ 32 →
    length (workers_of workload number left) ≤ 32
workers_few workload number left few =
    let part = filter_few (takes_part number left) (all_workers workload) in
    let all = length-range_with_len 0 workload.workers in
    omega (arith, part, all, few)

-- one worker more, with its turn to be taken in
pub one_worker : (number : ℕ) (left : List Job) (n : ℕ) →
    filter (takes_part number left) (range_with_len 0 (n + 1))
    ≡ filter (takes_part number left) (range_with_len 0 n) ++ cond (takes_part number left n) (n ∷ []) []
one_worker number left n =
    ap (filter (takes_part number left)) (range_more 0 n ∙ ap (λ (m : ℕ). range_with_len 0 n ++ m ∷ []) (let e : 0 + n ≡ n = omega arith in e))
    ∙ filter-append (takes_part number left) (range_with_len 0 n) (n ∷ [])

filter_true : (p : ℕ → Bool) (xs : List ℕ) → ((x : ℕ) → p x ≡ true) → filter p xs ≡ xs
filter_true p [] all = refl
filter_true p (x ∷ xs) all = rw (all x) (ap (λ (ys : List ℕ). x ∷ ys) (filter_true p xs all))

filter_same : (p q : ℕ → Bool) (xs : List ℕ) → ((x : ℕ) → p x ≡ q x) → filter p xs ≡ filter q xs
filter_same p q [] same = refl
filter_same p q (x ∷ xs) same =
    ap (λ (b : Bool). cond b (x ∷ filter p xs) (filter p xs)) (same x)
    ∙ ap (λ (ys : List ℕ). cond (q x) (x ∷ ys) ys) (filter_same p q xs same)

-- these are the workers of the round
pub are_workers : (workload : Workload) (number : ℕ) (rows : List Row) →
    workers_of workload number (left_by workload rows) ≡ workers_in workload number rows
are_workers workload number rows = by (number == 0) refl
  where
    by : (b : Bool) → (number == 0) ≡ b →
        workers_of workload number (left_by workload rows) ≡ workers_in workload number rows
    by true is =
        filter_true (takes_part number (left_by workload rows)) (all_workers workload)
        (λ w. ap (λ (b : Bool). b || has_job (left_by workload rows) w) is)
        ∙ sym (ap (λ (b : Bool). cond b (all_workers workload) (filter (has_job (left_by workload rows)) (all_workers workload))) is)
    by false is =
        filter_same (takes_part number (left_by workload rows)) (has_job (left_by workload rows)) (all_workers workload)
        (λ w. ap (λ (b : Bool). b || has_job (left_by workload rows) w) is)
        ∙ sym (ap (λ (b : Bool). cond b (all_workers workload) (filter (has_job (left_by workload rows)) (all_workers workload))) is)

-- ---- who has no part has no jobs

pub no_jobs : (worker : ℕ) (left : List Job) → has_job left worker ≡ false → jobs_of worker left ≡ []
no_jobs worker [] none = refl
no_jobs worker (job ∷ left) none = by (cases_eq job.worker worker) (no_jobs worker left)
  where
    by : (job.worker ≡ worker) ⊎ (job.worker ≡ worker → ⊥) → (has_job left worker ≡ false → jobs_of worker left ≡ []) →
        jobs_of worker (job ∷ left) ≡ []
    by (inl own) rest =
        absurd (true≢false (sym (let e : has_job (job ∷ left) worker ≡ true = rw (eq-eqb job.worker worker own) refl in e) ∙ none))
    by (inr other) rest =
        (let e : jobs_of worker (job ∷ left) ≡ jobs_of worker left = rw (ne_eqb job.worker worker other) refl in e)
        ∙ rest (sym (let e : has_job (job ∷ left) worker ≡ has_job left worker = rw (ne_eqb job.worker worker other) refl in e) ∙ none)

pub no_part : (number : ℕ) (left : List Job) (worker : ℕ) → takes_part number left worker ≡ false → jobs_of worker left ≡ []
no_part number left worker none = no_jobs worker left (second (number == 0) none)
  where
    second : (b : Bool) → (b || has_job left worker) ≡ false → has_job left worker ≡ false
    second true is = absurd (true≢false is)
    second false is = is

greatest_part : (f : ℕ → ℕ) (p : ℕ → Bool) (xs : List ℕ) → ((x : ℕ) → p x ≡ false → f x ≡ 0) →
    greatest (map f (filter p xs)) ≡ greatest (map f xs)
greatest_part f p [] none = refl
greatest_part f p (x ∷ xs) none = by (cases_Bool (p x)) (greatest_part f p xs none)
  where
    by : (p x ≡ true) ⊎ (p x ≡ false) → greatest (map f (filter p xs)) ≡ greatest (map f xs) →
        greatest (map f (filter p (x ∷ xs))) ≡ max (f x) (greatest (map f xs))
    by (inl passes) rest =
        ap (λ (b : Bool). greatest (map f (cond b (x ∷ filter p xs) (filter p xs)))) passes ∙ ap (max (f x)) rest
    by (inr fails) rest =
        ap (λ (b : Bool). greatest (map f (cond b (x ∷ filter p xs) (filter p xs)))) fails ∙ rest
        ∙ (let zero_here = none x fails in let e : greatest (map f xs) ≡ max (f x) (greatest (map f xs)) = omega (arith, zero_here) in e)

-- the greatest number of jobs of a worker is that of one that takes part
pub most_of_all : (workload : Workload) (number : ℕ) (left : List Job) →
    greatest (map (λ worker. length (jobs_of worker left)) (workers_of workload number left))
    ≡ greatest (map (λ worker. length (jobs_of worker left)) (all_workers workload))
most_of_all workload number left =
    greatest_part (λ worker. length (jobs_of worker left)) (takes_part number left) (all_workers workload)
    (λ worker none. ap length (no_part number left worker none))

-- ---- some worker takes part

some_passes : (p : ℕ → Bool) (a n w : ℕ) → a ≤ w → w < a + n → p w ≡ true → 0 < length (filter p (range_with_len a n))
some_passes p a zero w le lt passes = absurd (omega (arith, le, lt))
some_passes p a (suc n) w le lt passes = by (cases_Bool (p a)) (cases_eq a w) (some_passes p (a + 1) n w)
  where
    by : (p a ≡ true) ⊎ (p a ≡ false) → (a ≡ w) ⊎ (a ≡ w → ⊥) →
        (a + 1 ≤ w → w < (a + 1) + n → p w ≡ true → 0 < length (filter p (range_with_len (a + 1) n))) →
        0 < length (filter p (range_with_len a (suc n)))
    by (inl here) eq rest =
        subst (λ (b : Bool). 0 < length (cond b (a ∷ filter p (range_with_len (a + 1) n)) (filter p (range_with_len (a + 1) n))))
        (sym here) (omega arith)
    by (inr fails) (inl same) rest = absurd (true≢false (sym passes ∙ ap p (sym same) ∙ fails))
    by (inr fails) (inr other) rest =
        subst (λ (b : Bool). 0 < length (cond b (a ∷ filter p (range_with_len (a + 1) n)) (filter p (range_with_len (a + 1) n))))
        (sym fails) (rest (omega (arith, le, other)) (omega (arith, lt)) passes)

first_left : (jobs : List Job) (rows : List Row) → (P : Job → Type 0) → AllByRecursion P jobs → 0 < length (jobs_left jobs rows) →
    (job : Job) × P job × (has_job (jobs_left jobs rows) job.worker ≡ true)
first_left jobs rows P all some = by (jobs_left jobs rows) (each-filter P (λ job. not (is_named rows job)) jobs all) some
  where
    by : (js : List Job) → AllByRecursion P js → 0 < length js → (job : Job) × P job × (has_job js job.worker ≡ true)
    by [] holds none = absurd (omega (arith, none))
    by (job ∷ js) holds more = (job, holds.0, rw (eq-eqb job.worker job.worker refl) refl)

pub workers_some : {workload : Workload} (number : ℕ) (rows : List Row) → IsValidWorkload workload →
    (number ≡ 0) ⊎ (0 < count_left workload rows) → 0 < length (workers_of workload number (left_by workload rows))
workers_some {workload = workload} number rows valid (inl zeroth) =
    some_passes (takes_part number (left_by workload rows)) 0 workload.workers 0 (omega arith)
    (let some = valid.some_worker in omega arith) (ap (λ (b : Bool). b || has_job (left_by workload rows) 0) (eq-eqb number 0 zeroth))
workers_some {workload = workload} number rows valid (inr some) =
    let found = first_left workload.jobs rows (IsJob workload) (recursion_from_All (IsJob workload) workload.jobs valid.each) some in
    some_passes (takes_part number (left_by workload rows)) 0 workload.workers found.0.worker (omega arith)
    (let below = found.1.worker in omega arith) (either (number == 0) found.2)
  where
    either : (b : Bool) {h : Bool} → h ≡ true → (b || h) ≡ true
    either true is = refl
    either false is = is

-- ---- shares, worker by worker

-- the next worker has its share
pub share_more : {workload : Workload} (number : ℕ) {left : List Job} (n : ℕ) {shares : List Share} {share : Share} →
    AreShares workload left (filter (takes_part number left) (range_with_len 0 n)) shares → takes_part number left n ≡ true →
    share.worker ≡ n → IsOpen workload share → map (job_at workload.jobs) share.places.items ≡ jobs_of share.worker left →
    AreShares workload left (filter (takes_part number left) (range_with_len 0 (n + 1))) (shares ++ share ∷ [])
share_more {workload = workload} number {left = left} n {shares = shares} {share = share} are part worker is jobs =
    record {
      one_each = map-append (λ (s : Share). s.worker) shares (share ∷ [])
          ∙ ap (λ (ws : List ℕ). ws ++ share.worker ∷ []) are.one_each
          ∙ ap (λ (w : ℕ). filter (takes_part number left) (range_with_len 0 n) ++ w ∷ []) worker
          ∙ sym (one_worker number left n
          ∙ ap (λ (b : Bool). filter (takes_part number left) (range_with_len 0 n) ++ cond b (n ∷ []) []) part);
      open_yet = All-append (IsOpen workload) shares (share ∷ []) are.open_yet
          (All-from_recursion (IsOpen workload) (share ∷ []) (is, tt));
      jobs = All-append (λ (s : Share). map (job_at workload.jobs) s.places.items ≡ jobs_of s.worker left) shares (share ∷ []) are.jobs
          (All-from_recursion (λ (s : Share). map (job_at workload.jobs) s.places.items ≡ jobs_of s.worker left) (share ∷ []) (jobs, tt));
    }

-- it takes no part
pub share_skip : {workload : Workload} (number : ℕ) {left : List Job} (n : ℕ) {shares : List Share} →
    AreShares workload left (filter (takes_part number left) (range_with_len 0 n)) shares → takes_part number left n ≡ false →
    AreShares workload left (filter (takes_part number left) (range_with_len 0 (n + 1))) shares
share_skip {workload = workload} number {left = left} n {shares = shares} are none =
    subst (λ (ws : List ℕ). AreShares workload left ws shares) (sym (one_worker number left n
    ∙ ap (λ (b : Bool). filter (takes_part number left) (range_with_len 0 n) ++ cond b (n ∷ []) []) none
    ∙ append-nil (filter (takes_part number left) (range_with_len 0 n)))) are

-- a worker with places has jobs left, one without has none
pub part_of : (workload : Workload) (number : ℕ) (left : List Job) (worker : ℕ) (places : List ℕ) →
    map (job_at workload.jobs) places ≡ jobs_of worker left → (number ≡ 0) ⊎ (0 < length places) →
    takes_part number left worker ≡ true
part_of workload number left worker places jobs (inl zeroth) =
    ap (λ (b : Bool). b || has_job left worker) (eq-eqb number 0 zeroth)
part_of workload number left worker places jobs (inr some) = by (cases_Bool (has_job left worker))
  where
    by : (has_job left worker ≡ true) ⊎ (has_job left worker ≡ false) → takes_part number left worker ≡ true
    by (inl has) = either (number == 0) has
      where
        either : (b : Bool) {h : Bool} → h ≡ true → (b || h) ≡ true
        either true is = refl
        either false is = is
    by (inr none) =
        absurd (let empty = ap length (jobs ∙ no_jobs worker left none) in
        let n = length-map places (job_at workload.jobs) in omega (arith, some, empty, n))

pub no_part_of : (workload : Workload) (number : ℕ) (left : List Job) (worker : ℕ) (places : List ℕ) →
    map (job_at workload.jobs) places ≡ jobs_of worker left → number ≢ 0 → length places ≡ 0 →
    takes_part number left worker ≡ false
no_part_of workload number left worker places jobs other none =
    ap (λ (b : Bool). b || has_job left worker) (ne_eqb number 0 other) ∙ by (cases_Bool (has_job left worker))
  where
    by : (has_job left worker ≡ true) ⊎ (has_job left worker ≡ false) → has_job left worker ≡ false
    by (inl has) =
        absurd (let some = has_some worker left has in
        let same = ap length jobs in let n = length-map places (job_at workload.jobs) in omega (arith, some, same, n, none))
    by (inr is) = is
