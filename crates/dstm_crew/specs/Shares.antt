-- Private: the shares of a parallel round: what its workers have to do, and what they have done on its table.
use Rattle.std.specs.Prelude.{◌≡◌, ℕ, ◌<◌, ◌≤◌, ◌==◌, ◌||◌, Bool, true, filter, List, [], ◌∷◌, length, map, reverse, zip, All}
use Rattle.dstm_model.specs.declared.value.Val.{Val}
use Rattle.dstm_jobs.specs.Tables.{IsOf, Round}
use Rattle.dstm_words.specs.Seats.{AreApart}
use Rattle.dstm_workload.specs.declared.workload.Job.{Job}
use Rattle.dstm_workload.specs.declared.workload.Workload.{Workload}
use Rattle.dstm_report.specs.Turns.{job_at, jobs_of}
use Rattle.dstm_options.specs.declared.options.Options.{Options}
use Rattle.dstm_records.specs.Records.{IsMade, IsReleasing, IsRun, KeepsReads, seed_for}
use Rattle.dstm_jobs.specs.Answers.{KeepsFew}
use Rattle.dstm_records.specs.Rounds.{all_workers, greatest, has_job}
use Rattle.dstm_crew.specs.Workers.{AreDone, AreLines, next_job}
use Rattle.dstm_tables.specs.Tells.{ByCalls, callers_of, done_of, let_go_by, lets_go, start_of, values_of}
use Rattle.dstm_jobs.specs.Jobs.{HadToStop, NoneWasted}
use Rattle.dstm_crew.specs.declared.share.Share.{Share}

-- ---- before the round

-- the worker takes part in a parallel round: in round 0 each does, later those that have jobs left
abbrev pub takes_part : (number : ℕ) (left : List Job) (worker : ℕ) → Bool
takes_part number left worker = (number == 0) || has_job left worker

abbrev pub workers_of : Workload → (number : ℕ) (left : List Job) → List ℕ
workers_of workload number left = filter (takes_part number left) (all_workers workload)

-- nothing of a share is done yet
pub record IsOpen (workload : Workload) (share : Share) : Type 0 where
  pub within : All (λ place. place < length workload.jobs) share.places.items
  pub empty : share.done.items ≡ []
  pub no_lines : share.done.lines ≡ []
  pub room : length share.places.items ≤ share.done.room

-- each of these workers has a share, with its jobs that are left
pub record AreShares (workload : Workload) (left : List Job) (workers : List ℕ) (shares : List Share) : Type 0 where
  pub one_each : map (λ share. share.worker) shares ≡ workers
  pub open_yet : All (IsOpen workload) shares
  pub jobs : All (λ share. map (job_at workload.jobs) share.places.items ≡ jobs_of share.worker left) shares

-- the greatest number of jobs in a share
abbrev pub most_places : List Share → ℕ
most_places shares = greatest (map (λ share. length share.places.items) shares)

-- ---- after the round

-- what was done of a share on a closed table, by the caller of this number
pub record IsShared (workload : Workload) (options : Options) (r : Round) (share : Share) (c : ℕ) : Type 0 where
  pub within : c < callers_of r
  -- what the worker has done, one for one, by the transactions that its caller has committed, in order
  pub done : AreDone workload.layout workload.jobs share.places.items share.done.items (reverse (done_of r c))
  -- and their lines
  pub lines : AreLines workload.jobs share.places.items share.done.lines
  -- no attempt of its caller was wasted
  pub none_wasted : NoneWasted workload (next_job workload.jobs share.places.items share.done.items) r c
  -- it left jobs behind only where it had to
  pub left : length share.done.items < length share.places.items
      → HadToStop workload (next_job workload.jobs share.places.items share.done.items) r c
  -- with early release, walks along the list keep few reads
  pub few_reads : IsReleasing options workload.version → lets_go r ≡ true →
      All (λ told. KeepsFew (job_at workload.jobs told.0) told.1)
      (zip share.places.items (reverse (done_of r c)))
  -- its caller has made its events by calls, from the generator of its worker's seed on
  pub calls : ByCalls (seed_for options share.worker) r c
  -- where no read is given up, its caller has let none go
  pub keeps : KeepsReads options workload.version → let_go_by r c ≡ 0

-- the shares of a closed table, one for one, by callers of these numbers
abbrev pub AreShared : Workload → Options → Round → List Share → (callers : List ℕ) → Type 0
AreShared workload options r [] [] = Unit {0}
AreShared workload options r (share ∷ shares) (c ∷ callers) =
    IsShared workload options r share c × AreShared workload options r shares callers
AreShared workload options r shares callers = ⊥

-- the worker of a share, and where its jobs stand
abbrev pub asked_of : Share → ℕ × List ℕ
asked_of share = (share.worker, share.places.items)

-- The shares were run on a table of their own, which was closed: it is one of the engine of the options, as these and the jobs
-- want it, began with some values and left others, and each share was run by a caller of its own.
pub record WereRun (workload : Workload) (options : Options) (number : ℕ) (values left : List Val)
    (shares shares_then : List Share) (closed : Round) : Type 0 where
  pub engine : IsOf options.engine closed
  pub run : IsRun workload.layout closed
  pub made : IsMade options workload.version number (most_places shares) closed
  pub start : start_of closed ≡ values
  pub left_is : left ≡ values_of closed
  pub same : map asked_of shares_then ≡ map asked_of shares
  pub callers : List ℕ
  pub count : length callers ≡ callers_of closed
  pub apart : AreApart callers
  pub shared : AreShared workload options closed shares_then callers
