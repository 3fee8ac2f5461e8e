-- The places of the first jobs left, from turn to turn.
use Rattle.std.proofs.Common.{◌≡◌, ◌≢◌, ℕ, zero, suc, ◌+◌, ◌<◌, ◌≤◌, Bool, true, false, cond, leb, List, [], ◌∷◌}
use Rattle.std.proofs.Common.{length, get_or, set, Option, None, is_some, refl, ap, ap₂, sym, subst, ◌∙◌, arith, inl, inr}
use Rattle.std.specs.Prelude.{IsSome}
use Rattle.std.specs.Option.{option_and_then}
use Rattle.std.specs.List.{slice_get, All, AllByRecursion}
use Rattle.std.proofs.lemmas.Bool.{cases_lt, cases_eq, eq-eqb, ne_eqb, le-leb, lt-leb, false≢true}
use Rattle.std.proofs.lemmas.List.{length-set, get_or-set_same, get_or-set_other}
use Rattle.std.proofs.lemmas.List.Elements.{recursion_from_All}
use Rattle.std.proofs.lemmas.Option.{slice_get-get_or, slice_get_past}
use Rattle.dstm_workload.specs.declared.workload.Job.{Job}
use Rattle.dstm_report.specs.Lawful.{first_job}
use Rattle.dstm_report.specs.Turns.{without_first, no_job, job_at, IsFirstFrom, AreLinked, ArePlaces, job_of, left_from}

-- ---- the jobs left

-- what another one's job is nothing to, and whose own jobs up to this place are over, passes over a job
pub passed_over : {A : Type 0} (f : List Job → A) (next : List ℕ) (worker : ℕ) (job : Job) (jobs : List Job) (from : ℕ)
    {x : A} → (job.worker ≢ worker → f (job ∷ left_from (from + 1) next jobs) ≡ f (left_from (from + 1) next jobs)) →
    from < get_or next worker 0 → f (left_from (from + 1) next jobs) ≡ x → f (left_from from next (job ∷ jobs)) ≡ x
passed_over f next worker job jobs from {x = x} others over rest =
    let more = left_from (from + 1) next jobs in
    elim (cases_eq job.worker worker) [
      | inl mine ↦
          let past : leb (get_or next job.worker 0) from ≡ false =
          lt-leb _ _ (subst (λ w. from < get_or next w 0) (sym mine) over) in
          ap (λ (b : Bool). f (cond b (job ∷ more) more)) past ∙ rest
      | inr other ↦
          elim (leb (get_or next job.worker 0) from) as (λ b. f (cond b (job ∷ more) more) ≡ x) [
            | true ↦ others other ∙ rest
            | false ↦ rest
          ]
    ]

-- ---- the first job left of a worker

first_from : (next : List ℕ) (worker : ℕ) (jobs : List Job) (from ahead : ℕ) → get_or next worker 0 ≡ from + ahead →
    ahead ≤ length jobs → (ahead < length jobs → (job_at jobs ahead).worker ≡ worker) →
    first_job worker (left_from from next jobs) ≡ slice_get jobs ahead
first_from next worker [] from ahead is within own = refl
first_from next worker (job ∷ jobs) from zero is within own =
    let mine : job.worker ≡ worker = own (omega arith) in
    let here : leb (get_or next job.worker 0) from ≡ true =
    le-leb _ _ (subst (λ w. get_or next w 0 ≤ from) (sym mine) (omega (arith, is))) in
    rw (here, eq-eqb job.worker worker mine) refl
first_from next worker (job ∷ jobs) from (suc ahead) is within own =
    passed_over (first_job worker) next worker job jobs from
    (λ other. rw (ne_eqb job.worker worker other) refl) (omega (arith, is))
    (first_from next worker jobs (from + 1) ahead (omega (arith, is)) (omega (arith, within))
    (λ lt. own (omega (arith, lt))))

first_is : {jobs : List Job} {next followers : List ℕ} (worker : ℕ) → ArePlaces jobs next followers →
    worker < length next → first_job worker (left_from 0 next jobs) ≡ slice_get jobs (get_or next worker 0)
first_is {jobs = jobs} {next = next} worker places small =
    first_from next worker jobs 0 (get_or next worker 0) (omega arith) (places.within worker small)
    (places.own worker small)

no_more : (next : List ℕ) (worker workers from : ℕ) (jobs : List Job) → workers ≤ worker →
    AllByRecursion (λ j. j.worker < workers) jobs → first_job worker (left_from from next jobs) ≡ None
no_more next worker workers from [] past h = refl
no_more next worker workers from (job ∷ jobs) past h =
    let rest = no_more next worker workers (from + 1) jobs past h.1 in
    elim (leb (get_or next job.worker 0) from) as
    (λ b. first_job worker (cond b (job ∷ left_from (from + 1) next jobs) (left_from (from + 1) next jobs)) ≡ None) [
      | true ↦ rw (ne_eqb job.worker worker (λ e. omega (arith, h.0, past, e))) rest
      | false ↦ rest
    ]

none_is : {jobs : List Job} {next followers : List ℕ} (worker : ℕ) → ArePlaces jobs next followers →
    length next ≤ worker → first_job worker (left_from 0 next jobs) ≡ None
none_is {jobs = jobs} {next = next} worker places past =
    no_more next worker (length next) 0 jobs past
    (recursion_from_All (λ (j : Job). j.worker < length next) jobs places.small)

-- what stands at the worker's place, if it has one
pub first_at : {jobs : List Job} {next followers : List ℕ} (worker : ℕ) → ArePlaces jobs next followers →
    job_of jobs next worker ≡ first_job worker (left_from 0 next jobs)
first_at {jobs = jobs} {next = next} {followers = followers} worker places =
    let get : Option ℕ → Option Job = option_and_then (λ place. slice_get jobs place) in
    elim (cases_lt worker (length next)) [
      | inl small ↦ ap get (slice_get-get_or next worker 0 small) ∙ sym (first_is worker places small)
      | inr past ↦ ap get (slice_get_past next worker past) ∙ sym (none_is worker places past)
    ]

-- a worker with a job left has a place
pub has_place : {jobs : List Job} {next followers : List ℕ} (worker : ℕ) → ArePlaces jobs next followers →
    IsSome (first_job worker (left_from 0 next jobs)) → (worker < length next) × (get_or next worker 0 < length jobs)
has_place {jobs = jobs} {next = next} {followers = followers} worker places some =
    elim (cases_lt worker (length next)) [
      | inl small ↦
          elim (cases_lt (get_or next worker 0) (length jobs)) [
            | inl inside ↦ (small, inside)
            | inr past ↦
                let none = first_is worker places small
                ∙ slice_get_past jobs (get_or next worker 0) past in
                absurd (false≢true (sym (ap is_some none) ∙ some))
          ]
      | inr past ↦ absurd (false≢true (sym (ap is_some (none_is worker places past)) ∙ some))
    ]

-- ---- the end of a turn

module _ (next : List ℕ) (worker after : ℕ) (small : worker < length next) where
  abbrev new : List ℕ
  new = set next worker after

  here : get_or new worker 0 ≡ after
  here = get_or-set_same next worker after 0 small

  there : (w : ℕ) → w ≢ worker → get_or new w 0 ≡ get_or next w 0
  there w other = get_or-set_other next worker w after 0 other

  -- behind the place, what was left is left
  behind_same : (jobs : List Job) (from : ℕ) → get_or next worker 0 < from →
      ((k : ℕ) → k < length jobs → (job_at jobs k).worker ≡ worker → after ≤ from + k) →
      left_from from new jobs ≡ left_from from next jobs
  behind_same [] from past others = refl
  behind_same (job ∷ jobs) from past others =
      let rest = behind_same jobs (from + 1) (omega (arith, past))
      (λ k lt mine. omega (arith, others (suc k) (omega (arith, lt)) mine)) in
      let same : leb (get_or new job.worker 0) from ≡ leb (get_or next job.worker 0) from =
      elim (cases_eq job.worker worker) [
        | inl mine ↦
            let reached = others 0 (omega arith) mine in
            le-leb _ _ (omega (arith, ap (λ w. get_or new w 0) mine ∙ here, reached))
            ∙ sym (le-leb _ _ (omega (arith, ap (λ w. get_or next w 0) mine, past)))
        | inr other ↦ ap (λ p. leb p from) (there job.worker other)
      ] in
      ap₂ (λ (b : Bool) (js : List Job). cond b (job ∷ js) js) same rest

  -- from a place before it on, the worker's first job is gone
  left_less : (jobs : List Job) (from ahead : ℕ) → get_or next worker 0 ≡ from + ahead → ahead < length jobs →
      (job_at jobs ahead).worker ≡ worker → from + ahead < after →
      ((k : ℕ) → ahead < k → k < length jobs → (job_at jobs k).worker ≡ worker → after ≤ from + k) →
      left_from from new jobs ≡ without_first worker (left_from from next jobs)
  left_less [] from ahead is within own later others = absurd (omega (arith, within))
  left_less (job ∷ jobs) from zero is within own later others =
      let gone : leb (get_or new job.worker 0) from ≡ false =
      lt-leb _ _ (omega (arith, ap (λ w. get_or new w 0) own ∙ here, later)) in
      let was : leb (get_or next job.worker 0) from ≡ true =
      le-leb _ _ (omega (arith, ap (λ w. get_or next w 0) own, is)) in
      rw (gone, was, eq-eqb job.worker worker own) (behind_same jobs (from + 1) (omega (arith, is))
      (λ k lt mine. omega (arith, others (suc k) (omega arith) (omega (arith, lt)) mine)))
  left_less (job ∷ jobs) from (suc ahead) is within own later others =
      let rest = left_less jobs (from + 1) ahead (omega (arith, is)) (omega (arith, within)) own (omega (arith, later))
      (λ k lt inside mine. omega (arith, others (suc k) (omega (arith, lt)) (omega (arith, inside)) mine)) in
      elim (cases_eq job.worker worker) [
        | inl mine ↦
            let gone : leb (get_or new job.worker 0) from ≡ false =
            lt-leb _ _ (omega (arith, ap (λ w. get_or new w 0) mine ∙ here, later)) in
            let was : leb (get_or next job.worker 0) from ≡ false =
            lt-leb _ _ (omega (arith, ap (λ w. get_or next w 0) mine, is)) in
            rw (gone, was) rest
        | inr other ↦
            rw (there job.worker other) (elim (leb (get_or next job.worker 0) from) as
            (λ b. cond b (job ∷ left_from (from + 1) new jobs) (left_from (from + 1) new jobs)
            ≡ without_first worker (cond b (job ∷ left_from (from + 1) next jobs) (left_from (from + 1) next jobs))) [
              | true ↦ rw (ne_eqb job.worker worker other) (ap (λ (js : List Job). job ∷ js) rest)
              | false ↦ rest
            ])
      ]

pub passed : {jobs : List Job} {next followers : List ℕ} (worker : ℕ) → ArePlaces jobs next followers →
    worker < length next → get_or next worker 0 < length jobs →
    left_from 0 (set next worker (get_or followers (get_or next worker 0) 0)) jobs
    ≡ without_first worker (left_from 0 next jobs)
passed {jobs = jobs} {next = next} {followers = followers} worker places small inside =
    let place = get_or next worker 0 in
    let own = places.own worker small inside in
    let ahead = places.following place inside in
    left_less next worker (get_or followers place 0) small jobs 0 place (omega arith) inside own
    (omega (arith, ahead.behind)) (λ k lt within mine. elim (cases_lt k (get_or followers place 0)) [
      | inl before ↦ absurd (ahead.others k (omega (arith, lt)) before (mine ∙ sym own))
      | inr reached ↦ omega (arith, reached)
    ])

pub places_passed : {jobs : List Job} {next followers : List ℕ} (worker : ℕ) → ArePlaces jobs next followers →
    worker < length next → get_or next worker 0 < length jobs →
    ArePlaces jobs (set next worker (get_or followers (get_or next worker 0) 0)) followers
places_passed {jobs = jobs} {next = next} {followers = followers} worker places small inside =
    let place = get_or next worker 0 in
    let after = get_or followers place 0 in
    let new = set next worker after in
    let count = length-set next worker after in
    let own = places.own worker small inside in
    let ahead : IsFirstFrom jobs worker (place + 1) after =
    subst (λ w. IsFirstFrom jobs w (place + 1) after) own (places.following place inside) in
    let here : get_or new worker 0 ≡ after = get_or-set_same next worker after 0 small in
    let there : (w : ℕ) → w ≢ worker → get_or new w 0 ≡ get_or next w 0 =
    λ w other. get_or-set_other next worker w after 0 other in
    record {
      small = λ k d lt. omega (arith, places.small k d lt, count);
      each_job = places.each_job;
      within = λ w lt.
          elim (cases_eq w worker) [
            | inl same ↦ subst (λ v. get_or new v 0 ≤ length jobs) (sym same) (omega (arith, here, ahead.within))
            | inr other ↦ omega (arith, there w other, places.within w (omega (arith, lt, count)))
          ];
      own = λ w lt below.
          elim (cases_eq w worker) [
            | inl same ↦
                let at : get_or new w 0 ≡ after = ap (λ v. get_or new v 0) same ∙ here in
                ap (λ p. (job_at jobs p).worker) at ∙ ahead.own (omega (arith, at, below)) ∙ sym same
            | inr other ↦
                ap (λ p. (job_at jobs p).worker) (there w other)
                ∙ places.own w (omega (arith, lt, count)) (omega (arith, there w other, below))
          ];
      following = places.following;
    }

-- ---- before the first turn

all_left : (next : List ℕ) (jobs : List Job) (from : ℕ) →
    ((k : ℕ) → k < length jobs → get_or next (job_at jobs k).worker 0 ≤ from + k) → left_from from next jobs ≡ jobs
all_left next [] from h = refl
all_left next (job ∷ jobs) from h =
    rw (le-leb (get_or next job.worker 0) from (let first = h 0 (omega arith) in omega (arith, first)))
    (ap (λ (js : List Job). job ∷ js) (all_left next jobs (from + 1)
    (λ k lt. let later = h (suc k) (omega (arith, lt)) in omega (arith, later))))

pub starts : {jobs : List Job} {workers : ℕ} {firsts followers : List ℕ} → All (λ job. job.worker < workers) jobs →
    AreLinked jobs workers 0 firsts followers → left_from 0 firsts jobs ≡ jobs
starts {jobs = jobs} {firsts = firsts} all links =
    all_left firsts jobs 0 (λ k lt.
    let mine = (job_at jobs k).worker in
    let first = links.first mine (all k no_job lt) in
    elim (cases_lt k (get_or firsts mine 0)) [
      | inl before ↦ absurd (first.others k (omega arith) before refl)
      | inr reached ↦ omega (arith, reached)
    ])
