-- A run, round by round.
use Rattle.std.specs.Prelude.{◌≡◌, ◌⊎◌, ℕ, ◌+◌, ◌<◌, false, List, [], ◌++◌, length, drop, All}
use Rattle.dstm_model.specs.declared.value.Val.{Val}
use Rattle.dstm_model.specs.declared.layout.Layout.{Layout}
use Rattle.dstm_workload.specs.declared.workload.Workload.{Workload}
use Rattle.dstm_workload.specs.Workload.{IsValidWorkload}
use Rattle.dstm_report.specs.declared.report.Row.{Row}
use Rattle.dstm_report.specs.Lawful.{RowsAreGood, jobs_left, store_after}
use Rattle.dstm_report.specs.Turns.{Turning}
use Rattle.dstm_store.specs.Whole.{StandsFor}
use Rattle.dstm_options.specs.declared.options.Options.{Options}
use Rattle.dstm_jobs.specs.Tables.{Round}
use Rattle.dstm_records.specs.Records.{IsRoundOf, IsRun, AreRoundsOf}
use Rattle.dstm_tables.specs.Tells.{values_of, SightsAgree}
use Rattle.dstm_records.specs.Rounds.{is_parallel}

-- whose turn it is behind these rows
abbrev pub turns_behind : Workload → List Row → Turning
turns_behind workload rows = record { jobs = workload.jobs; left = jobs_left workload.jobs rows }

-- how many jobs rows leave
abbrev pub count_left : Workload → List Row → ℕ
count_left workload rows = length (jobs_left workload.jobs rows)

-- what there is when a round begins: good rows of the rounds before, and values that stand for the store after them
pub record Begins (workload : Workload) (number : ℕ) (rows : List Row) (values : List Val) : Type 0 where
  pub valid : IsValidWorkload workload
  pub good : RowsAreGood workload [] rows
  pub earlier : All (λ row. row.round < number) rows
  pub stands : StandsFor workload.layout values (store_after workload rows)
  -- behind round 0 there is a round only where jobs are left
  pub needed : (number ≡ 0) ⊎ (0 < count_left workload rows)

-- what a round adds: these rows, and values that stand for the store after them
pub record AddsRound (workload : Workload) (options : Options) (number : ℕ) (before : List Row) (values : List Val)
    (closed : Round) (rows : List Row) (left : List Val) : Type 0 where
  pub good : RowsAreGood workload before rows
  pub all_in : All (λ row. row.round ≡ number) rows
  pub round : IsRoundOf workload options number before rows values closed
  pub sights : SightsAgree closed
  pub values_are : left ≡ values_of closed
  pub stands : StandsFor workload.layout left (store_after workload (before ++ rows))
  pub fewer : count_left workload (before ++ rows) + length rows ≡ count_left workload before
  pub some : is_parallel number ≡ false → 0 < length rows

-- what is known of a round that was closed, whatever became of its rows
pub record IsClosed (layout : Layout) (round : Round) : Type 0 where
  pub run : IsRun layout round
  pub sights : SightsAgree round

-- some rounds stand behind the others, and each of them was closed
abbrev pub AddsClosed : Layout → (rounds rounds_then : List Round) → Type 0
AddsClosed layout rounds rounds_then =
    (closed : List Round) × ((rounds_then ≡ rounds ++ closed) × All (IsClosed layout) closed)

-- what was added to some rounds
abbrev pub added : (old new : List Round) → List Round
added old new = drop (length old) new

-- what all rounds leave: no job, good rows, and records that stand for them
pub record HasEnded (workload : Workload) (options : Options) (start : List Val) (rounds : List Round) (rows : List Row)
    (values : List Val) : Type 0 where
  pub good : RowsAreGood workload [] rows
  pub whole : length rows ≡ length workload.jobs
  pub stands : StandsFor workload.layout values (store_after workload rows)
  pub some : 0 < length rounds
  pub each : AreRoundsOf workload options rows 0 [] start rounds
  pub all_rows : All (λ row. row.round < length rounds) rows
