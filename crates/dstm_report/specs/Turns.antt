-- Whose turn it is: each worker runs its jobs in their order.
use Rattle.std.specs.Prelude.{◌≡◌, ◌≢◌, ℕ, ◌+◌, ◌<◌, ◌≤◌, ◌==◌, nat_le, if◌then◌else◌, List, [], ◌∷◌, length}
use Rattle.std.specs.Prelude.{slice_index, slice_index_or, filter, Option, All}
use Rattle.std.specs.List.{slice_get}
use Rattle.std.specs.Option.{option_and_then}
use Rattle.dstm_workload.specs.declared.workload.Job.{Job}

-- what contracts see: all jobs, and those that are left
pub record Turning : Type 0 where
  pub jobs : List Job
  pub left : List Job

-- the jobs without the first one of a worker
abbrev pub without_first : ℕ → List Job → List Job
without_first worker [] = []
without_first worker (job ∷ jobs) = if job.worker == worker then jobs else job ∷ without_first worker jobs

-- ---- places of jobs

-- what stands at a place that a list of jobs does not have
abbrev pub no_job : Job
no_job = record { line = 0; worker = 0; ops = [] }

abbrev pub job_at : List Job → ℕ → Job
job_at jobs k = slice_index_or jobs k no_job

-- the place is that of the worker's first job from another place on, or the number of jobs where there is none
pub record IsFirstFrom (jobs : List Job) (worker from place : ℕ) : Type 0 where
  pub behind : from ≤ place
  pub within : place ≤ length jobs
  pub own : place < length jobs → (job_at jobs place).worker ≡ worker
  pub others : (k : ℕ) → from ≤ k → k < place → (job_at jobs k).worker ≢ worker

-- from a place on, the first job of each worker, and of each job the next one of its worker
pub record AreLinked (jobs : List Job) (workers from : ℕ) (firsts followers : List ℕ) : Type 0 where
  pub each_worker : length firsts ≡ workers
  pub each_job : length followers ≡ length jobs
  pub first : (worker : ℕ) → worker < workers → IsFirstFrom jobs worker from (slice_index firsts worker)
  pub following : (k : ℕ) → from ≤ k → k < length jobs →
      IsFirstFrom jobs (job_at jobs k).worker (k + 1) (slice_index followers k)

-- the place of each worker's first job left, and of each job the place of the next one of its worker
pub record ArePlaces (jobs : List Job) (next followers : List ℕ) : Type 0 where
  pub small : All (λ job. job.worker < length next) jobs
  pub each_job : length followers ≡ length jobs
  pub within : (worker : ℕ) → worker < length next → slice_index next worker ≤ length jobs
  pub own : (worker : ℕ) → worker < length next → slice_index next worker < length jobs →
      (job_at jobs (slice_index next worker)).worker ≡ worker
  pub following : (k : ℕ) → k < length jobs → IsFirstFrom jobs (job_at jobs k).worker (k + 1) (slice_index followers k)

-- the job at the worker's place, if there is one
abbrev pub job_of : List Job → List ℕ → ℕ → Option Job
job_of jobs next worker = option_and_then (λ place. slice_get jobs place) (slice_get next worker)

-- the jobs, numbered from a place on, that do not stand before the first job left of their worker
abbrev pub left_from : ℕ → List ℕ → List Job → List Job
left_from place next [] = []
left_from place next (job ∷ jobs) =
    if nat_le (slice_index next job.worker) place then job ∷ left_from (place + 1) next jobs
    else left_from (place + 1) next jobs

-- the jobs of a worker
abbrev pub jobs_of : ℕ → List Job → List Job
jobs_of worker jobs = filter (λ job. job.worker == worker) jobs
