-- Jobs whose lines rise: which job has a line, and which are left when one row more names one of them.
use Rattle.std.proofs.Common.{◌≡◌, ℕ, suc, ◌+◌, ◌<◌, ◌≤◌, Bool, true, false, cond, eqb, not, ◌||◌, List, [], ◌∷◌}
use Rattle.std.proofs.Common.{◌++◌, length, get_or, Option, Some, None, refl, ap, sym, subst, ◌∙◌, inl, inr, arith}
use Rattle.std.specs.Prelude.{IfSome}
use Rattle.std.specs.List.{filter, find, All, AllByRecursion}
use Rattle.std.specs.List.Sorted.{IsStrictlyIncreasing}
use Rattle.std.proofs.lemmas.Bool.{eq-eqb, ne_eqb, cases_eq, cases_lt}
use Rattle.std.proofs.lemmas.List.{length-map}
use Rattle.std.proofs.lemmas.List.Folds.{list_any-append}
use Rattle.std.proofs.lemmas.List.Elements.{recursion_from_All}
use Rattle.std.proofs.lemmas.Option.{none-some, same_Some}
use Rattle.dstm_model.specs.Store.{Store}
use Rattle.dstm_model.specs.Job.{apply_job}
use Rattle.dstm_workload.specs.declared.workload.Job.{Job}
use Rattle.dstm_workload.specs.Workload.{lines_of_jobs}
use Rattle.dstm_report.specs.declared.report.Row.{Row}
use Rattle.dstm_report.specs.Lawful.{is_named, jobs_left, first_job, AreBlocked}
use Rattle.dstm_report.specs.Turns.{without_first}

-- each line is at least `least`, and below the next
abbrev pub Rise : ℕ → List Job → Type 0
Rise least [] = Unit {0}
Rise least (job ∷ jobs) = (least ≤ job.line) × Rise (job.line + 1) jobs

rise_of : (least : ℕ) (jobs : List Job) → (0 < length jobs → least ≤ get_or (lines_of_jobs jobs) 0 0) →
    IsStrictlyIncreasing (lines_of_jobs jobs) → Rise least jobs
rise_of least [] first rising = tt
rise_of least (job ∷ jobs) first rising =
    let lines = lines_of_jobs jobs in
    let all : List ℕ = job.line ∷ lines in
    let count = length-map jobs (λ (j : Job). j.line) in (
      first (omega arith),
      rise_of (job.line + 1) jobs
          (λ some. let next = rising 0 (omega (arith, count)) in omega (arith, next)) (λ k lt.
          let behind : suc k + 1 ≡ suc (k + 1) = omega arith in
          subst (λ (i : ℕ). get_or lines k 0 < get_or all i 0) behind (rising (suc k) (omega (arith, lt)))),
    )

Rise-weaker : (a b : ℕ) (jobs : List Job) → a ≤ b → Rise b jobs → Rise a jobs
Rise-weaker a b [] le rise = tt
Rise-weaker a b (job ∷ jobs) le rise = (omega (arith, rise.0), rise.1)

-- some of rising jobs rise
pub Rise-filter : (p : Job → Bool) (least : ℕ) (jobs : List Job) → Rise least jobs → Rise least (filter p jobs)
Rise-filter p least [] rise = tt
Rise-filter p least (job ∷ jobs) rise =
    let rest = Rise-filter p (job.line + 1) jobs rise.1 in
    elim (p job) as (λ b. Rise least (cond b (job ∷ filter p jobs) (filter p jobs))) [
      | true ↦ (rise.0, rest)
      | false ↦ Rise-weaker least (job.line + 1) (filter p jobs) (omega (arith, rise.0)) rest
    ]

-- a fact of each job is one of each of some of them
pub each-filter : (P : Job → Type 0) (p : Job → Bool) (jobs : List Job) → AllByRecursion P jobs →
    AllByRecursion P (filter p jobs)
each-filter P p [] h = tt
each-filter P p (job ∷ jobs) h =
    let rest = each-filter P p jobs h.1 in
    elim (p job) as (λ b. AllByRecursion P (cond b (job ∷ filter p jobs) (filter p jobs)))
    [ true ↦ (h.0, rest) | false ↦ rest ]

-- ---- the jobs of other lines

abbrev pub others : ℕ → List Job → List Job
others line jobs = filter (λ job. not (eqb line job.line)) jobs

push_case : (named here : Bool) (line : ℕ) (job : Job) (left : List Job) {after : List Job} → after ≡ others line left →
    eqb line job.line ≡ here →
    cond (not (named || (here || false))) (job ∷ after) after ≡ others line (cond (not named) (job ∷ left) left)
push_case true here line job left e h = e
push_case false true line job left e h = rw h e
push_case false false line job left e h = rw h (ap (λ (rest : List Job). job ∷ rest) e)

-- one row more takes its line out
pub jobs_left-push : (jobs : List Job) (rows : List Row) (row : Row) →
    jobs_left jobs (rows ++ row ∷ []) ≡ others row.line (jobs_left jobs rows)
jobs_left-push [] rows row = refl
jobs_left-push (job ∷ jobs) rows row =
    let after = jobs_left jobs (rows ++ row ∷ []) in
    ap (λ (b : Bool). cond (not b) (job ∷ after) after) (list_any-append (λ (r : Row). eqb r.line job.line) rows
    (row ∷ []))
    ∙ push_case (is_named rows job) (eqb row.line job.line) row.line job (jobs_left jobs rows)
    (jobs_left-push jobs rows row) refl

-- without rows all jobs are left
pub jobs_left-none : (jobs : List Job) → jobs_left jobs [] ≡ jobs
jobs_left-none [] = refl
jobs_left-none (job ∷ jobs) = ap (λ (rest : List Job). job ∷ rest) (jobs_left-none jobs)

-- jobs on higher lines are others
pub others-above : (line least : ℕ) (jobs : List Job) → line < least → Rise least jobs → others line jobs ≡ jobs
others-above line least [] below rise = refl
others-above line least (job ∷ jobs) below rise =
    rw (ne_eqb line job.line (λ e. omega (arith, rise.0))) (ap (λ (rest : List Job). job ∷ rest)
    (others-above line (job.line + 1) jobs (omega (arith, rise.0)) rise.1))

-- ---- what is found

-- a fact of each element is one of the first that passes a test
pub found_holds : {X : Type 0} (P : X → Type 0) (p : X → Bool) (xs : List X) → AllByRecursion P xs → IfSome (find p xs) P
found_holds P p [] h = tt
found_holds P p (x ∷ xs) h =
    elim (p x) as (λ b. IfSome (cond b (Some x) (find p xs)) P) [ true ↦ h.0 | false ↦ found_holds P p xs h.1 ]

found_above : (p : Job → Bool) (least : ℕ) (jobs : List Job) (job : Job) → Rise least jobs → find p jobs ≡ Some job →
    least ≤ job.line
found_above p least [] job rise is = absurd (none-some job is)
found_above p least (first ∷ jobs) job rise is =
    elim (p first) as (λ b. cond b (Some first) (find p jobs) ≡ Some job → least ≤ job.line) [
      | true ↦ λ e. subst (λ (j : Job). least ≤ j.line) (same_Some first job e) rise.0
      | false ↦ λ e. let above = found_above p (first.line + 1) jobs job rise.1 e in omega (arith, rise.0, above)
    ] is

-- a job that is found among some is the one of its line among all
pub find_line : (p q : Job → Bool) (least : ℕ) (jobs : List Job) (job : Job) → Rise least jobs →
    find p (filter q jobs) ≡ Some job → find (λ j. eqb j.line job.line) jobs ≡ Some job
find_line p q least [] job rise is = absurd (none-some job is)
find_line p q least (first ∷ jobs) job rise is =
    let Found : Type 0 = find (λ j. eqb j.line job.line) (first ∷ jobs) ≡ Some job in
    let later : find p (filter q jobs) ≡ Some job → Found = λ e.
    let above = found_above p (first.line + 1) (filter q jobs) job (Rise-filter q (first.line + 1) jobs rise.1) e in
    rw (ne_eqb first.line job.line (λ s. omega (arith, above))) (find_line p q (first.line + 1) jobs job rise.1 e) in
    let here : first ≡ job → Found = λ same.
    rw (eq-eqb first.line job.line (ap (λ (j : Job). j.line) same)) (ap (λ (j : Job). Some j) same) in
    elim (q first) as (λ b. find p (cond b (first ∷ filter q jobs) (filter q jobs)) ≡ Some job → Found) [
      | true ↦ elim (p first) as (λ b. cond b (Some first) (find p (filter q jobs)) ≡ Some job → Found) [
        | true ↦ λ e. here (same_Some first job e)
        | false ↦ later
      ]
      | false ↦ later
    ] is

-- a worker that is none has no jobs
pub none_past : (workers worker : ℕ) (jobs : List Job) → workers ≤ worker →
    AllByRecursion (λ j. j.worker < workers) jobs → first_job worker jobs ≡ None
none_past workers worker [] le h = refl
none_past workers worker (job ∷ jobs) le h =
    rw (ne_eqb job.worker worker (λ e. omega (arith, h.0))) (none_past workers worker jobs le h.1)

-- ---- the first job of a worker

-- what holds of each job left holds of a worker's first one
pub first_holds : (P : Job → Type 0) (worker : ℕ) (left : List Job) (job : Job) → All P left →
    first_job worker left ≡ Some job → P job
first_holds P worker left job all is =
    subst (λ (o : Option Job). IfSome o P) is (found_holds P _ left (recursion_from_All P left all))

-- a worker's first job is the worker's
pub first_own : (worker : ℕ) (left : List Job) (job : Job) → first_job worker left ≡ Some job → job.worker ≡ worker
first_own worker [] job is = absurd (none-some job is)
first_own worker (first ∷ left) job is =
    elim (cases_eq first.worker worker) [
      | inl mine ↦
          let here : Some first ≡ Some job = subst (λ (o : Option Job). o ≡ Some job)
          (let found : first_job worker (first ∷ left) ≡ Some first = rw (eq-eqb first.worker worker mine) refl in found)
          is in
          ap (λ (j : Job). j.worker) (sym (same_Some first job here)) ∙ mine
      | inr other ↦
          let passed : first_job worker (first ∷ left) ≡ first_job worker left =
          rw (ne_eqb first.worker worker other) refl in
          first_own worker left job (sym passed ∙ is)
    ]

-- where the first job of each worker is blocked, that is of every number
pub all_blocked : (workers : ℕ) (left : List Job) (store : Store) → All (λ job. job.worker < workers) left →
    ((k : ℕ) → k < workers → IfSome (first_job k left) (λ job. apply_job job.ops store ≡ None)) → AreBlocked left store
all_blocked workers left store small each worker =
    elim (cases_lt worker workers) [
      | inl is_worker ↦ each worker is_worker
      | inr past ↦
          subst (λ (o : Option Job). IfSome o (λ job. apply_job job.ops store ≡ None))
          (sym (none_past workers worker left past
          (recursion_from_All (λ (j : Job). j.worker < workers) left small))) tt
    ]

-- some worker has a first job
pub someone : (workers : ℕ) (left : List Job) → 0 < length left → All (λ job. job.worker < workers) left →
    ((k : ℕ) → k < workers → first_job k left ≡ None) → ⊥
someone workers [] some small none = absurd (omega (arith, some))
someone workers (job ∷ left) some small none =
    let found : first_job job.worker (job ∷ left) ≡ Some job = rw (eq-eqb job.worker job.worker refl) refl in
    none-some job (sym (none job.worker (small 0 job (omega arith))) ∙ found)

-- ---- a turn

-- without the line of a worker's first job, the jobs are those without that job
others-first : (worker least : ℕ) (jobs : List Job) (job : Job) → Rise least jobs → first_job worker jobs ≡ Some job →
    others job.line jobs ≡ without_first worker jobs
others-first worker least [] job rise is = refl
others-first worker least (first ∷ jobs) job rise is =
    elim (eqb first.worker worker) as (λ b. cond b (Some first) (first_job worker jobs) ≡ Some job →
    others job.line (first ∷ jobs) ≡ cond b jobs (first ∷ without_first worker jobs)) [
      | true ↦ λ e.
          subst (λ (j : Job). others j.line (first ∷ jobs) ≡ jobs) (same_Some first job e)
          (rw (eq-eqb first.line first.line refl) (others-above first.line (first.line + 1) jobs (omega arith) rise.1))
      | false ↦ λ e.
          let above = found_above (λ j. eqb j.worker worker) (first.line + 1) jobs job rise.1 e in
          rw (ne_eqb job.line first.line (λ q. omega (arith, above)))
          (ap (λ (js : List Job). first ∷ js) (others-first worker (first.line + 1) jobs job rise.1 e))
    ] is

-- a row that names a worker's first job left ends that worker's turn
pub turn_ends : (jobs : List Job) (rows : List Row) (row : Row) (job : Job) → Rise 0 jobs →
    first_job row.worker (jobs_left jobs rows) ≡ Some job → row.line ≡ job.line →
    without_first row.worker (jobs_left jobs rows) ≡ jobs_left jobs (rows ++ row ∷ [])
turn_ends jobs rows row job rise first line =
    sym (jobs_left-push jobs rows row ∙ ap (λ (l : ℕ). others l (jobs_left jobs rows)) line
    ∙ others-first row.worker 0 (jobs_left jobs rows) job (Rise-filter _ 0 jobs rise) first)

pub rise_all : (jobs : List Job) → IsStrictlyIncreasing (lines_of_jobs jobs) → Rise 0 jobs
rise_all jobs rising = rise_of 0 jobs (λ some. omega arith) rising

-- one job is left less
pub length-without_first : (worker : ℕ) (jobs : List Job) (job : Job) → first_job worker jobs ≡ Some job →
    length (without_first worker jobs) + 1 ≡ length jobs
length-without_first worker [] job is = absurd (none-some job is)
length-without_first worker (first ∷ jobs) job is =
    elim (eqb first.worker worker) as (λ b. cond b (Some first) (first_job worker jobs) ≡ Some job →
    length (cond b jobs (first ∷ without_first worker jobs)) + 1 ≡ length (first ∷ jobs)) [
      | true ↦ λ e. omega arith
      | false ↦ λ e. let rest = length-without_first worker jobs job e in omega (arith, rest)
    ] is
