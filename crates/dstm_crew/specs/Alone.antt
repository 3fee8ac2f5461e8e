-- Private: an alone round, step by step: one caller runs the first job left of each worker, the workers in rising order.
use Rattle.std.specs.Prelude.{◌≡◌, ◌⊎◌, ℕ, ◌+◌, ◌-◌, ◌<◌, ◌≤◌, Bool, true, false, List, [], ◌∷◌, ◌++◌, length, filter, reverse, zip, None, IfSome, All}
use Rattle.std.specs.List.{range_with_len}
use Rattle.dstm_model.specs.Job.{apply_job}
use Rattle.dstm_jobs.specs.Tables.{AtRest, Caller, GoesOn, Table}
use Rattle.dstm_tables.specs.Callers.{begun, done, home_of, law_of, number_of, round_of}
use Rattle.dstm_tables.specs.Tells.{HasLocators, IsSpent, WasSighted, attempts_of, callers_of, lets_go, start_of, used_by, writes_all}
use Rattle.dstm_store.specs.Whole.{StandsFor}
use Rattle.dstm_workload.specs.declared.workload.Job.{Job}
use Rattle.dstm_workload.specs.declared.workload.Workload.{Workload}
use Rattle.dstm_workload.specs.Workload.{IsValidWorkload}
use Rattle.dstm_report.specs.declared.report.Row.{Row}
use Rattle.dstm_report.specs.Lawful.{first_job, store_after}
use Rattle.dstm_report.specs.Turns.{Turning}
use Rattle.dstm_options.specs.declared.options.Options.{Options}
use Rattle.dstm_records.specs.Records.{IsInOrder, IsReleasing, KeepsFewReads, WasAsked, count_done, is_blocked, most_tries}
use Rattle.dstm_records.specs.Rounds.{attempts_for, has_job, is_parallel, left_by, workers_left}
use Rattle.dstm_records.specs.Running.{turns_behind}
use Rattle.dstm_records.specs.Told.{AreTold}
use Rattle.dstm_crew.specs.declared.sweeping.Swept.{Swept}
use Rattle.dstm_crew.specs.declared.sweeping.Swept.TheVariants as swept

-- A caller that can run alone behind these rows: the round is an alone one, the caller is the only one of its table and has done nothing yet, and its table
-- is as large as the workers that have jobs left want it
pub record CanRunAlone (workload : Workload) (options : Options) (number : ℕ) (table : Table) (k : Caller)
    (before : List Row) (turns : Turning) : Type 0 where
  pub valid : IsValidWorkload workload
  pub alone : is_parallel number ≡ false
  pub earlier : All (λ row. row.round < number) before
  pub home : home_of k ≡ table
  pub only : callers_of (round_of k) ≡ 1
  pub law : (law_of k).layout ≡ workload.layout
  pub reads : workload.version ≡ 3 → writes_all (round_of k) ≡ false
  pub reads_go : IsReleasing options workload.version → lets_go (round_of k) ≡ true
  pub attempts : attempts_of (round_of k) ≡ attempts_for (length (workers_left workload before))
  pub locators : HasLocators (round_of k)
  pub rest : AtRest k
  pub none_begun : begun k ≡ 0
  pub none_installed : used_by (round_of k) (number_of k) ≡ 0
  pub none_done : done k ≡ []
  pub stands : StandsFor workload.layout (start_of (round_of k)) (store_after workload before)
  pub turns_are : turns ≡ turns_behind workload before
  pub some_left : 0 < length (left_by workload before)

-- What there is of an alone round: its rows so far tell of what the caller has committed, one for one. With early
-- release, walks along the list keep few reads. An attempt was made sure of by its opens and its commit, and at a blocked job
-- once more.
pub record Goes (workload : Workload) (options : Options) (number : ℕ) (first k : Caller) (before rows now : List Row)
    (turns : Turning) : Type 0 where
  pub rows_are : rows ≡ before ++ now
  pub turns_are : turns ≡ turns_behind workload rows
  pub on : GoesOn first k
  pub told : AreTold workload before now (reverse (done k))
  pub in_round : All (λ row. row.round ≡ number) now
  pub sighted : (i : ℕ) → 0 < i → i ≤ begun k → WasSighted 1 (round_of k) (number_of k) i
  pub few_reads : IsReleasing options workload.version → All (KeepsFewReads workload) (zip now (reverse (done k)))

-- The rows so far are in order, and the workers whose jobs were done stand before this one. `some` tells whether there
-- are any.
pub record Passes (rows : List Row) (worker : ℕ) (some : Bool) : Type 0 where
  pub order : IsInOrder rows
  pub below : All (λ row. row.worker < worker) order.pass
  pub none_yet : some ≡ false → order.pass ≡ []
  pub has_some : some ≡ true → 0 < length order.pass

-- An alone round has ended: it has a row, and at most one of each worker whose job was not given up. No worker was passed over,
-- unless the caller is spent, and no attempt was wasted. Its rows are in order, and it went on until a job was done,
-- unless no job is left or the caller is spent.
pub record HasRunAlone (workload : Workload) (options : Options) (number : ℕ) (first k : Caller)
    (before rows : List Row) (turns : Turning) : Type 0 where
  pub now : List Row
  pub goes : Goes workload options number first k before rows now turns
  pub some : 0 < length now
  pub few : (worker : ℕ) → count_done worker now ≤ 1
  pub asked :
      (worker : ℕ) → worker < workload.workers → has_job (left_by workload before) worker ≡ true
      → WasAsked workload before now worker ⊎ IsSpent (round_of k) (number_of k)
  pub attempts : begun k ≤ most_tries workload before now
  pub order : IsInOrder now
  pub ended : (0 < length order.pass)
      ⊎ ((left_by workload (before ++ now) ≡ []) ⊎ IsSpent (round_of k) (number_of k))

-- the workers from this one on that have jobs left
abbrev pub still_waiting : Workload → (worker : ℕ) → List Job → List ℕ
still_waiting workload worker left = filter (has_job left) (range_with_len worker (workload.workers - worker))

-- behind these rows so many workers below this one have a first job that is blocked
abbrev pub blocked_below : Workload → List Row → (worker : ℕ) → ℕ
blocked_below workload rows worker = length (filter (is_blocked workload rows) (range_with_len 0 worker))

-- how often a worker's first job was blocked, up to this worker behind all of the rows
abbrev pub blocked_so_far : Workload → (before rows : List Row) → (worker : ℕ) → ℕ
blocked_so_far workload before [] worker = blocked_below workload before worker
blocked_so_far workload before (row ∷ rows) worker =
    blocked_below workload before workload.workers + blocked_so_far workload (before ++ row ∷ []) rows worker

-- Where a pass over the workers stands before a worker. `some` tells whether it has done a job.
pub record Sweeps (workload : Workload) (options : Options) (number : ℕ) (first k : Caller) (before rows : List Row)
    (turns : Turning) (worker : ℕ) (some : Bool) : Type 0 where
  pub now : List Row
  pub goes : Goes workload options number first k before rows now turns
  -- each worker before has done a job at most once, and the others none
  pub few : (w : ℕ) → w < worker → count_done w now ≤ 1
  pub others : (w : ℕ) → worker ≤ w → count_done w now ≡ 0
  pub has_row : some ≡ true → 0 < length now
  pub passes : Passes now worker some
  -- while no job is done, none was done in the round, and the first job left of each worker before is blocked
  pub none_done : some ≡ false → (w : ℕ) → count_done w now ≡ 0
  pub blocked : some ≡ false → (w : ℕ) → w < worker →
      IfSome (first_job w (left_by workload rows)) (λ job. apply_job job.ops (store_after workload rows) ≡ None)
  -- each worker that had jobs left was asked, or its turn in the pass is still to come
  pub asked :
      (w : ℕ) → w < workload.workers → has_job (left_by workload before) w ≡ true
      → WasAsked workload before now w ⊎ ((worker ≤ w) × (has_job (left_by workload rows) w ≡ true))
  -- beside an attempt for each row there was one for each blocked job
  pub attempts : begun k ≤ length now + blocked_so_far workload before now worker
  -- while there is no row, nothing is used up
  pub unused : now ≡ [] → used_by (round_of k) (number_of k) ≡ 0
  pub few_tries : now ≡ [] →
      begun k + length (still_waiting workload worker (left_by workload before))
      ≤ length (workers_left workload before)

-- what a step of an alone round may count on
pub record MayStep (workload : Workload) (table : Table) (k : Caller) (rows : List Row) (turns : Turning) :
    Type 0 where
  pub valid : IsValidWorkload workload
  pub home : home_of k ≡ table
  pub only : callers_of (round_of k) ≡ 1
  pub law : (law_of k).layout ≡ workload.layout
  pub rest : AtRest k
  pub turns_are : turns ≡ turns_behind workload rows

-- some job was done
abbrev pub is_done : Swept → Bool
is_done swept.Done = true
is_done ended = false

-- where a pass stands after a step, by how this ended
abbrev pub Leads : Workload → Options → ℕ → (first n : Caller) → (before rows : List Row) → Turning → (next : ℕ) →
    Bool → Swept → Type 0
Leads workload options number first n before rows turns next some swept.Done =
    Sweeps workload options number first n before rows turns next true
Leads workload options number first n before rows turns next some swept.Blocked =
    Sweeps workload options number first n before rows turns next some
Leads workload options number first n before rows turns next some swept.Spent =
    HasRunAlone workload options number first n before rows turns

-- a step of a pass, which was before a worker and is before another one then
abbrev pub HasStepped : Workload → Options → ℕ → Table → (k n : Caller) → (rows rows_then : List Row) →
    (turns turns_then : Turning) → (worker next : ℕ) → Swept → Type 0
HasStepped workload options number table k n rows rows_then turns turns_then worker next ended =
    (first : Caller) (before : List Row) (begun : Turning) (some : Bool) →
    CanRunAlone workload options number table first before begun →
    Sweeps workload options number first k before rows turns worker some →
    Leads workload options number first n before rows_then turns_then next some ended
