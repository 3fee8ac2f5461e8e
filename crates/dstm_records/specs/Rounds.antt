-- Rounds of a report: which jobs are left when a round begins, which workers run them, and how large its table is.
--
-- A report's rows are taken by the round that they name; rounds are numbered from 0.
use Rattle.std.specs.Prelude.{ℕ, ◌+◌, ◌*◌, ◌%◌, ◌==◌, Bool, min, max, if◌then◌else◌, List, [], ◌∷◌, length, map, filter}
use Rattle.std.specs.List.{list_any, range_with_len}
use Rattle.dstm_workload.specs.declared.workload.Job.{Job}
use Rattle.dstm_workload.specs.declared.workload.Workload.{Workload}
use Rattle.dstm_report.specs.declared.report.Row.{Row}
use Rattle.dstm_report.specs.Lawful.{jobs_left}

-- in a parallel round the workers run beside one another, in an alone round one caller runs for all
abbrev pub is_parallel : ℕ → Bool
is_parallel number = number % 2 == 0

abbrev pub rows_in : ℕ → List Row → List Row
rows_in number rows = filter (λ row. row.round == number) rows

-- ---- who runs, where these rows stand before

-- the jobs that are left: those that no row names
abbrev pub left_by : Workload → List Row → List Job
left_by workload rows = jobs_left workload.jobs rows

abbrev pub jobs_of : ℕ → List Job → List Job
jobs_of worker jobs = filter (λ job. job.worker == worker) jobs

abbrev pub has_job : List Job → ℕ → Bool
has_job jobs worker = list_any (λ job. job.worker == worker) jobs

abbrev pub all_workers : Workload → List ℕ
all_workers workload = range_with_len 0 workload.workers

-- the workers that have jobs left, in rising order
abbrev pub workers_left : Workload → List Row → List ℕ
workers_left workload before = filter (has_job (left_by workload before)) (all_workers workload)

-- the workers of a parallel round: in round 0 all, later those that have jobs left
abbrev pub workers_in : Workload → ℕ → List Row → List ℕ
workers_in workload number before = if number == 0 then all_workers workload else workers_left workload before

-- ---- how large the table is

abbrev pub greatest : List ℕ → ℕ
greatest [] = 0
greatest (n ∷ ns) = max n (greatest ns)

-- the greatest number of jobs that one caller of the round has to run: in a parallel round a caller runs the jobs of its
-- worker, in an alone round it runs one of each worker that has jobs left
abbrev pub most_jobs : Workload → ℕ → List Row → ℕ
most_jobs workload number before =
    if is_parallel number
    then greatest (map (λ worker. length (jobs_of worker (left_by workload before))) (all_workers workload))
    else length (workers_left workload before)

abbrev pub attempts_for : ℕ → ℕ
attempts_for jobs = min (4 * jobs + 16) 16384

abbrev pub locators_for : ℕ → ℕ
locators_for objects = objects + 16384
