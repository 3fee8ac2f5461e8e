-- Where the jobs left of a worker stand, one after the other.
use Rattle.std.proofs.Common.{◌≡◌, ◌≢◌, ℕ, zero, suc, ◌+◌, ◌-◌, ◌<◌, ◌≤◌, true, false, cond, leb, List, [], ◌∷◌, ◌++◌, length, get_or, map, drop, refl, ap, sym, subst, ◌∙◌, inl, inr, arith, append_assoc}
use Rattle.std.specs.List.{All, AllByRecursion}
use Rattle.std.proofs.lemmas.Bool.{cases_eq, cases_lt, eq-eqb, ne_eqb, le-leb}
use Rattle.std.proofs.lemmas.List.{drop_more, drop_all, get_or_default, get_or_past, map-append}
use Rattle.std.proofs.lemmas.List.Elements.{recursion_from_All, All-nil, All-push}
use Rattle.dstm_workload.specs.declared.workload.Job.{Job}
use Rattle.dstm_report.proofs.Places.{passed_over}
use Rattle.dstm_report.specs.Turns.{no_job, job_at, jobs_of, IsFirstFrom, ArePlaces, left_from}

-- some places of a worker's jobs left were found; the next one is this place, or there is none behind
pub record StandsAt (jobs left : List Job) (worker : ℕ) (places : List ℕ) (place : ℕ) : Type 0 where
  pub found : map (job_at jobs) places ++ jobs_of worker (drop place jobs) ≡ jobs_of worker left
  pub small : All (λ p. p < length jobs) places
  pub within : place ≤ length jobs
  pub own : place < length jobs → (job_at jobs place).worker ≡ worker

-- where the jobs between two places are others', the worker has the same jobs from both on
skip : (jobs : List Job) (worker from n : ℕ) → from + n ≤ length jobs →
    ((k : ℕ) → from ≤ k → k < from + n → (job_at jobs k).worker ≢ worker) →
    jobs_of worker (drop from jobs) ≡ jobs_of worker (drop (from + n) jobs)
skip jobs worker from zero within others = ap (λ p. jobs_of worker (drop p jobs)) (let e : from ≡ from + 0 = omega arith in e)
skip jobs worker from (suc n) within others =
    let here : drop from jobs ≡ job_at jobs from ∷ drop (from + 1) jobs = drop_more jobs from no_job (omega (arith, within)) in
    let rest = skip jobs worker (from + 1) n (omega (arith, within)) (λ k le lt. others k (omega (arith, le)) (omega (arith, lt))) in
    let passed : jobs_of worker (drop from jobs) ≡ jobs_of worker (drop (from + 1) jobs) = ap (jobs_of worker) here
    ∙ rw (ne_eqb (job_at jobs from).worker worker (others from (omega arith) (omega arith))) refl in
    passed ∙ rest ∙ ap (λ p. jobs_of worker (drop p jobs)) (let e : (from + 1) + n ≡ from + suc n = omega arith in e)

skip_to : {jobs : List Job} {worker from place : ℕ} → IsFirstFrom jobs worker from place →
    jobs_of worker (drop from jobs) ≡ jobs_of worker (drop place jobs)
skip_to {jobs = jobs} {worker = worker} {from = from} {place = place} first =
    let n = place - from in
    let is : from + n ≡ place = let b = first.behind in omega arith in
    skip jobs worker from n (let w = first.within in omega arith) (λ k le lt. first.others k le (omega (arith, lt, is)))
    ∙ ap (λ p. jobs_of worker (drop p jobs)) is

-- behind its place all jobs of the worker are left
all_behind : (next : List ℕ) (worker : ℕ) (jobs : List Job) (from : ℕ) → get_or next worker 0 ≤ from →
    jobs_of worker (left_from from next jobs) ≡ jobs_of worker jobs
all_behind next worker [] from reached = refl
all_behind next worker (job ∷ jobs) from reached =
    let rest = all_behind next worker jobs (from + 1) (omega (arith, reached)) in
    elim (cases_eq job.worker worker) [
      | inl mine ↦
          let here : leb (get_or next job.worker 0) from ≡ true =
          le-leb _ _ (subst (λ w. get_or next w 0 ≤ from) (sym mine) reached) in
          rw (here, eq-eqb job.worker worker mine) (ap (λ (js : List Job). job ∷ js) rest)
      | inr other ↦
          elim (leb (get_or next job.worker 0) from) as
          (λ b. jobs_of worker (cond b (job ∷ left_from (from + 1) next jobs) (left_from (from + 1) next jobs))
          ≡ jobs_of worker (job ∷ jobs)) [
            | true ↦ rw (ne_eqb job.worker worker other) rest
            | false ↦ rw (ne_eqb job.worker worker other) rest
          ]
    ]

-- the jobs left of a worker are those from its place on
from_place : (next : List ℕ) (worker : ℕ) (jobs : List Job) (from ahead : ℕ) → get_or next worker 0 ≡ from + ahead →
    ahead ≤ length jobs → jobs_of worker (left_from from next jobs) ≡ jobs_of worker (drop ahead jobs)
from_place next worker jobs from zero is within = all_behind next worker jobs from (omega (arith, is))
from_place next worker [] from (suc ahead) is within = absurd (omega (arith, within))
from_place next worker (job ∷ jobs) from (suc ahead) is within =
    passed_over (jobs_of worker) next worker job jobs from
    (λ other. rw (ne_eqb job.worker worker other) refl) (omega (arith, is))
    (from_place next worker jobs (from + 1) ahead (omega (arith, is)) (omega (arith, within)))

-- one that is no worker has no jobs left
none_left : (next : List ℕ) (worker workers from : ℕ) (jobs : List Job) → workers ≤ worker →
    AllByRecursion (λ j. j.worker < workers) jobs → jobs_of worker (left_from from next jobs) ≡ []
none_left next worker workers from [] past small = refl
none_left next worker workers from (job ∷ jobs) past small =
    let rest = none_left next worker workers (from + 1) jobs past small.1 in
    elim (leb (get_or next job.worker 0) from) as
    (λ b. jobs_of worker (cond b (job ∷ left_from (from + 1) next jobs) (left_from (from + 1) next jobs)) ≡ []) [
      | true ↦ rw (ne_eqb job.worker worker (λ e. omega (arith, small.0, past, e))) rest
      | false ↦ rest
    ]

pub stands_first : {jobs : List Job} {next followers : List ℕ} (worker place : ℕ) → ArePlaces jobs next followers →
    place ≡ get_or next worker (length jobs) → StandsAt jobs (left_from 0 next jobs) worker [] place
stands_first {jobs = jobs} {next = next} worker place places is =
    elim (cases_lt worker (length next)) [
      | inl small ↦
          let at : place ≡ get_or next worker 0 = is ∙ get_or_default next worker (length jobs) 0 small in
          record {
            found = sym (from_place next worker jobs 0 place (omega (arith, at)) (omega (arith, at, places.within worker small)));
            small = All-nil (λ p. p < length jobs);
            within = omega (arith, at, places.within worker small);
            own = λ inside. ap (λ p. (job_at jobs p).worker) at ∙ places.own worker small (omega (arith, at, inside));
          }
      | inr past ↦
          let end : place ≡ length jobs = is ∙ get_or_past next worker (length jobs) past in
          record {
            found = ap (jobs_of worker) (drop_all place jobs (omega (arith, end)))
                ∙ sym (none_left next worker (length next) 0 jobs past
                (recursion_from_All (λ (j : Job). j.worker < length next) jobs places.small));
            small = All-nil (λ p. p < length jobs);
            within = omega (arith, end);
            own = λ inside. absurd (omega (arith, end, inside));
          }
    ]

pub stands_next : {jobs left : List Job} {next followers : List ℕ} {worker place : ℕ} (after : ℕ) {found : List ℕ} →
    ArePlaces jobs next followers → place < length jobs → after ≡ get_or followers place 0 →
    StandsAt jobs left worker found place → StandsAt jobs left worker (found ++ place ∷ []) after
stands_next {jobs = jobs} {worker = worker} {place = place} after {found = found} places inside is stands =
    let job = job_at jobs place in
    let mine : job.worker ≡ worker = stands.own inside in
    let ahead : IsFirstFrom jobs worker (place + 1) after = subst (λ w. IsFirstFrom jobs w (place + 1) after) mine
    (subst (IsFirstFrom jobs job.worker (place + 1)) (sym is) (places.following place inside)) in
    let here : jobs_of worker (drop place jobs) ≡ job ∷ jobs_of worker (drop after jobs) =
    ap (jobs_of worker) (drop_more jobs place no_job inside)
    ∙ rw (eq-eqb job.worker worker mine) (ap (λ (js : List Job). job ∷ js) (skip_to ahead)) in
    record {
      found = ap (λ (js : List Job). js ++ jobs_of worker (drop after jobs)) (map-append (job_at jobs) found (place ∷ []))
          ∙ append_assoc (map (job_at jobs) found) (job ∷ []) (jobs_of worker (drop after jobs))
          ∙ ap (λ (js : List Job). map (job_at jobs) found ++ js) (sym here)
          ∙ stands.found;
      small = All-push (λ p. p < length jobs) found place stands.small inside;
      within = ahead.within;
      own = ahead.own;
    }
