-- Private: collecting: what the workers of a parallel round have done, in the order of the numbers that the transactions drew.
use Rattle.std.specs.Prelude.{◌≡◌, ◌≢◌, ℕ, ◌<◌, ◌≤◌, ◌==◌, nat_le, if◌then◌else◌, List, [], ◌∷◌, ◌++◌, length, map, zip, true, All, Option, Some, None, IfSome, slice_index, slice_index_or}
use Rattle.std.specs.List.{slice_get}
use Rattle.std.specs.Option.{option_map}
use Rattle.dstm_jobs.specs.Tables.{IsRun, Round}
use Rattle.dstm_words.specs.Seats.{AreApart}
use Rattle.dstm_workload.specs.declared.workload.Workload.{Workload}
use Rattle.dstm_workload.specs.Workload.{IsValidWorkload}
use Rattle.dstm_report.specs.declared.report.Row.{Row}
use Rattle.dstm_report.specs.Lawful.{first_job}
use Rattle.dstm_report.specs.Turns.{Turning, job_at, jobs_of}
use Rattle.dstm_options.specs.declared.options.Options.{Options}
use Rattle.dstm_records.specs.Records.{IsReleasing, KeepsFewReads}
use Rattle.dstm_tables.specs.Tells.{callers_of, committed_of, lets_go}
use Rattle.dstm_records.specs.Rounds.{has_job, left_by}
use Rattle.dstm_records.specs.Running.{turns_behind}
use Rattle.dstm_records.specs.Told.{AreTold}
use Rattle.dstm_crew.specs.Workers.{AreLines, next_job}
use Rattle.dstm_crew.specs.declared.collecting.Lead.{Lead}
use Rattle.dstm_crew.specs.declared.share.Share.{Share}
use Rattle.dstm_crew.specs.Shares.{AreShared}

-- the share's jobs are jobs of the workload, no more was done than it has, and the lines are those of its jobs
pub record IsFit (workload : Workload) (share : Share) : Type 0 where
  pub within : All (λ place. place < length workload.jobs) share.places.items
  pub enough : length share.done.items ≤ length share.places.items
  pub lines : AreLines workload.jobs share.places.items share.done.lines

-- Shares of different workers, each with its worker's jobs that are left behind these rows.
pub record CanCollect (workload : Workload) (shares : List Share) (rows : List Row) (turns : Turning) : Type 0 where
  pub valid : IsValidWorkload workload
  pub turns_are : turns ≡ turns_behind workload rows
  pub fit : All (IsFit workload) shares
  pub apart : AreApart (map (λ share. share.worker) shares)
  pub jobs : All (λ share. map (job_at workload.jobs) share.places.items ≡ jobs_of share.worker turns.left) shares

-- ---- whose row comes next

-- the number of what stands at this place of what was done of a share
abbrev pub number_at : Share → ℕ → Option ℕ
number_at share place = option_map (λ finished. finished.number) (slice_get share.done.items place)

-- the next number of each share, of which so much was taken already
abbrev pub heads : List Share → (next : List ℕ) → List (Option ℕ)
heads shares next = map (λ pair. number_at pair.0 pair.1) (zip shares next)

abbrev pub head : List Share → (next : List ℕ) → ℕ → Option ℕ
head shares next place = slice_index_or (heads shares next) place None

-- the number at a place of a list
abbrev pub number_in : (numbers : List (Option ℕ)) → ℕ → Option ℕ
number_in numbers place = slice_index_or numbers place None

-- the number at this place is the least of a list
pub record IsLeast (numbers : List (Option ℕ)) (place : ℕ) : Type 0 where
  pub number : ℕ
  pub own : number_in numbers place ≡ Some number
  pub least : (other : ℕ) → IfSome (number_in numbers other) (λ n. number ≤ n)

-- no number at another place than the lead's is below the lead's bound
abbrev pub IsAhead : (numbers : List (Option ℕ)) → Lead → Type 0
IsAhead numbers lead = (other : ℕ) → other ≢ lead.place → IfSome (number_in numbers other) (λ n. lead.bound ≤ n)

-- a list has no number
abbrev pub AreSpent : (numbers : List (Option ℕ)) → Type 0
AreSpent numbers = (place : ℕ) → number_in numbers place ≡ None

-- no share has a lower number next than the one at this place
abbrev pub IsNext : List Share → (next : List ℕ) → (place : ℕ) → Type 0
IsNext shares next place = IsLeast (heads shares next) place

-- it is the first place that has a number, and that number
abbrev pub IsFirst : (numbers : List (Option ℕ)) → ℕ × ℕ → Type 0
IsFirst numbers found =
    (number_in numbers found.0 ≡ Some found.1) × ((k : ℕ) → k < found.0 → number_in numbers k ≡ None)

-- a place and a number, unless what was found before has a number that is not greater
abbrev pub lesser_of : ℕ × ℕ → (place number : ℕ) → ℕ × ℕ
lesser_of found place number = if nat_le found.1 number then found else (place, number)

-- nothing is left of any share
abbrev pub AreTaken : List Share → (next : List ℕ) → Type 0
AreTaken shares next = AreSpent (heads shares next)

-- the row of what stands at this place of what was done of a share
pub record IsRowOf (workload : Workload) (round : ℕ) (share : Share) (place : ℕ) (row : Row) : Type 0 where
  pub line : row.line ≡ (job_at workload.jobs (slice_index share.places.items place)).line
  pub worker : row.worker ≡ share.worker
  pub round_is : row.round ≡ round
  pub number : Some row.number ≡ number_at share place
  pub replies : option_map (λ finished. finished.replies) (slice_get share.done.items place) ≡ Some row.replies

-- ---- what is collected

-- they were run on a closed table, by all its callers
pub record AreRunBy (workload : Workload) (options : Options) (r : Round) (shares : List Share) (callers : List ℕ) : Type 0 where
  pub run : IsRun r
  pub count : length callers ≡ callers_of r
  pub apart : AreApart callers
  pub shared : AreShared workload options r shares callers

-- the caller by which a worker's share was run
abbrev pub caller_of : List Share → (callers : List ℕ) → (worker : ℕ) → ℕ
caller_of [] callers worker = 0
caller_of (share ∷ shares) [] worker = 0
caller_of (share ∷ shares) (c ∷ callers) worker =
    if share.worker == worker then c else caller_of shares callers worker

-- The rows behind those before tell of all that was committed on the table, one for one and in order: a worker's rows of
-- what its caller committed. What is left of a worker's jobs is what was not done of its share.
pub record HasCollected (workload : Workload) (options : Options) (number : ℕ) (r : Round) (shares : List Share) (callers : List ℕ) (before rows : List Row) (turns : Turning) : Type 0 where
  pub now : List Row
  pub rows_are : rows ≡ before ++ now
  pub turns_are : turns ≡ turns_behind workload rows
  pub in_round : All (λ row. row.round ≡ number) now
  pub told : AreTold workload before now (committed_of r)
  pub own : All (λ told. told.1.caller ≡ caller_of shares callers told.0.worker) (zip now (committed_of r))
  pub few_reads : IsReleasing options workload.version → lets_go r ≡ true →
      All (KeepsFewReads workload) (zip now (committed_of r))
  pub next : All (λ share. first_job share.worker (left_by workload rows)
      ≡ next_job workload.jobs share.places.items share.done.items) shares
  pub fewer : All (λ share. has_job (left_by workload rows) share.worker ≡ true
      → length share.done.items < length share.places.items) shares
