-- What it says that the records of rounds stand for a report: its rows are the transactions that committed on those
-- tables, one for one, and no round was passed over without need. What a record tells stands in the words on tables.
use Rattle.std.specs.List.{slice_get}
use Rattle.std.specs.Prelude.{◌≡◌, ℕ, ◌+◌, ◌%◌, ◌^◌, ◌<◌, ◌≤◌, ◌==◌, ◌&&◌, Bool, true, false, not, List, [], ◌∷◌, ◌++◌, length, filter, find, zip, Option, Some, IfSome, IsSomeAnd, All, Contains, ◌⊎◌, None, is_none}
use Rattle.dstm_model.specs.declared.value.Val.{Val}
use Rattle.dstm_model.specs.declared.layout.Layout.{Layout}
use Rattle.dstm_model.specs.declared.reply.Reply.{Reply}
use Rattle.dstm_model.specs.declared.reply.Reply.TheVariants.{Never}
use Rattle.dstm_model.specs.Answers.{Committed}
use Rattle.dstm_model.specs.Job.{apply_job}
use Rattle.dstm_model.specs.Map.{Agrees, with_writes}
use Rattle.dstm_model.specs.Objects.{objects_of}
use Rattle.dstm_model.specs.Store.{Store}
use Rattle.dstm_core.specs.declared.shape.Shape.{Shape}
use Rattle.dstm_store.specs.Opening.{opening_values}
use Rattle.dstm_store.specs.Whole.{StandsFor}
use Rattle.dstm_workload.specs.declared.workload.Job.{Job}
use Rattle.dstm_workload.specs.declared.workload.Workload.{Workload}
use Rattle.dstm_report.specs.declared.report.Row.{Row}
use Rattle.dstm_report.specs.declared.report.Report.{Report}
use Rattle.dstm_report.specs.Lawful.{RowsAreGood, first_job, store_after}
use Rattle.dstm_options.specs.declared.options.Engine.TheVariants as engine
use Rattle.dstm_options.specs.declared.options.Options.{Options}
use Rattle.dstm_jobs.specs.Tables.{IsOf, Round, layout_of}
use Rattle.dstm_tables.specs.declared.tables.Round.TheVariants.{Dstm, Tl2}
use Rattle.dstm_jobs.specs.Answers.{KeepsFew, StaysOut}
use Rattle.dstm_jobs.specs.Jobs.{HadToStop, NoneWasted}
use Rattle.dstm_jobs.specs.Tables as known
use Rattle.dstm_tables.specs.Tells.{ByCalls, IsSpent, WasSighted, begun_of, callers_of, committed_of, let_go_by, start_of, values_of}
use Rattle.dstm_records.specs.Rounds.{is_parallel, rows_in, left_by, has_job, workers_in, workers_left, most_jobs, attempts_for, locators_for, all_workers}

-- its table has the store's law and objects, and what happened on it is a run of its engine
pub record IsRun (layout : Layout) (round : Round) : Type 0 where
  pub law : layout_of round ≡ layout
  pub objects : length (start_of round) ≡ objects_of layout
  pub run : known.IsRun round

-- ---- how a table was made

-- the table is as the options and the jobs of its callers want it
pub record IsDstmMade (options : Options) (version number jobs : ℕ) (shape : Shape) : Type 0 where
  pub attempts : shape.attempts ≡ attempts_for jobs
  pub locators : shape.locators ≡ locators_for shape.objects
  pub manager : shape.manager ≡ options.manager
  pub all_write : is_parallel number ≡ true → shape.all_write ≡ options.all_write
  -- so in alone rounds, but that in version 3 reads stay reads
  pub alone_writes : is_parallel number ≡ false → shape.all_write ≡ (options.all_write && not (version == 3))

-- a table of TL2 has attempts alone
abbrev pub IsMade : Options → (version number jobs : ℕ) → Round → Type 0
IsMade options version number jobs (Dstm r) = IsDstmMade options version number jobs r.terms.shape
IsMade options version number jobs (Tl2 r) = r.terms.attempts ≡ attempts_for jobs

-- the seed of a worker's caller
abbrev pub seed_for : Options → (worker : ℕ) → ℕ
seed_for options worker = (options.seed + worker) % 2 ^ 64

-- ---- early release

-- reads are given up early: under DSTM, of a workload that has no conditions, with reads that stay reads
pub record IsReleasing (options : Options) (version : ℕ) : Type 0 where
  pub engine : options.engine ≡ engine.Dstm
  pub release : options.release ≡ true
  pub reads : options.all_write ≡ false
  pub no_conditions : version ≤ 2

-- no read is given up: reads are not given up early
abbrev pub KeepsReads : Options → (version : ℕ) → Type 0
KeepsReads options version = IsReleasing options version → ⊥

-- ---- rows and transactions

-- a job is given up by the reply `never` alone
abbrev pub is_given_up : List Reply → Bool
is_given_up (Never ∷ []) = true
is_given_up replies = false

-- the job of a row
abbrev pub job_of : Workload → Row → Option Job
job_of workload row = find (λ job. job.line == row.line) workload.jobs

-- on this store the job gives these replies
abbrev pub GivesReplies : Option Job → Store → List Reply → Type 0
GivesReplies job store replies =
    IsSomeAnd job (λ j. IsSomeAnd (apply_job j.ops store) (λ outcome. replies ≡ outcome.replies))

-- A row tells of a transaction that committed, which began at this map. Some rows stand before it.
pub record TellsOf (workload : Workload) (before : List Row) (row : Row) (map : List Val) (done : Committed) : Type 0 where
  -- its number is the one that the transaction drew
  pub number : row.number ≡ done.number
  -- what the transaction left stands for the store after the row
  pub store : StandsFor workload.layout (with_writes map done.entry.writes) (store_after workload (before ++ row ∷ []))
  -- its replies are the job's on every lawful map with the values that the transaction read
  pub replies :
      is_given_up row.replies ≡ false → (lawful : List Val) (held : Store)
      → StandsFor workload.layout lawful held → Agrees lawful done.entry.reads
      → GivesReplies (job_of workload row) held row.replies
  -- it has read and written no object that is foreign to the job: that no operation and no condition of it is about
  pub inside :
      is_given_up row.replies ≡ false
      → IsSomeAnd (job_of workload row) (λ job. StaysOut workload.layout job.ops done.entry)
  -- where the job was given up, the transaction read and wrote nothing
  pub nothing_read : is_given_up row.replies ≡ true → done.entry.reads ≡ []
  pub nothing_written : is_given_up row.replies ≡ true → done.entry.writes ≡ []

-- the rows tell of the transactions, one for one and in order
abbrev pub TellOf : Workload → List Row → List Row → List Val → List Committed → Type 0
TellOf workload before [] map [] = Unit {0}
TellOf workload before [] map (done ∷ more) = ⊥
TellOf workload before (row ∷ rows) map [] = ⊥
TellOf workload before (row ∷ rows) map (done ∷ more) =
    TellsOf workload before row map done
    × TellOf workload (before ++ row ∷ []) rows (with_writes map done.entry.writes) more

-- ---- parallel rounds

-- the workers have callers of their own, one for one
pub record ArePaired (workers : List ℕ) (callers : ℕ) (caller : ℕ → ℕ) : Type 0 where
  pub count : length workers ≡ callers
  pub within : (worker : ℕ) → Contains workers worker → caller worker < callers
  pub apart :
      (one other : ℕ) → Contains workers one → Contains workers other
      → caller one ≡ caller other → one ≡ other

-- the first job of a worker that these rows leave
abbrev pub next_of : Workload → List Row → ℕ → Option Job
next_of workload rows worker = first_job worker (left_by workload rows)

-- why a worker left a round with jobs left: its caller was spent, or its last attempt stood at a blocked job
abbrev pub HadToLeave : Workload → List Row → Round → ℕ → ℕ → Type 0
HadToLeave workload rows round worker c = HadToStop workload (next_of workload rows worker) round c

-- each attempt of a worker's caller committed, made sure of by its opens and its commit alone, or was disturbed, or stood at a
-- blocked job; in version 3 one that was disturbed may have stood there, and no other was made sure of more often
abbrev pub HadCause : Workload → List Row → Round → ℕ → ℕ → Type 0
HadCause workload rows round worker c = NoneWasted workload (next_of workload rows worker) round c

-- a parallel round: each of its workers has a caller of its own
pub record IsParallel (workload : Workload) (options : Options) (number : ℕ) (before rows : List Row) (round : Round) : Type 0 where
  pub caller : ℕ → ℕ
  pub paired : ArePaired (workers_in workload number before) (callers_of round) caller
  -- a worker's rows tell of what its caller committed
  pub own : All (λ told. told.1.caller ≡ caller told.0.worker) (zip rows (committed_of round))
  -- a worker that still has jobs left had to leave
  pub left :
      (worker : ℕ) → Contains (workers_in workload number before) worker
      → has_job (left_by workload (before ++ rows)) worker ≡ true
      → HadToLeave workload (before ++ rows) round worker (caller worker)
  -- no attempt was wasted
  pub attempts :
      (worker : ℕ) → Contains (workers_in workload number before) worker
      → HadCause workload (before ++ rows) round worker (caller worker)
  -- a worker's caller has made its events by calls, from the generator of its seed on
  pub calls :
      (worker : ℕ) → Contains (workers_in workload number before) worker
      → ByCalls (seed_for options worker) round (caller worker)
  -- where no read is given up, a worker's caller has let none go
  pub keeps :
      KeepsReads options workload.version → (worker : ℕ) → Contains (workers_in workload number before) worker
      → let_go_by round (caller worker) ≡ 0

-- ---- alone rounds

-- how many rows of a worker tell of jobs that were not given up
abbrev pub count_done : ℕ → List Row → ℕ
count_done worker rows = length (filter (λ row. (row.worker == worker) && not (is_given_up row.replies)) rows)

-- there is a job, and it is blocked in the store
abbrev pub is_blocked_in : Store → Option Job → Bool
is_blocked_in store None = false
is_blocked_in store (Some job) = is_none (apply_job job.ops store)

-- behind these rows the first job left of a worker is blocked
abbrev pub is_blocked : Workload → List Row → ℕ → Bool
is_blocked workload rows worker = is_blocked_in (store_after workload rows) (next_of workload rows worker)

-- at some time in a round the first job left of a worker was blocked: behind the first of its rows
pub record WasBlocked (workload : Workload) (before rows : List Row) (worker : ℕ) : Type 0 where
  pub first : List Row
  pub rest : List Row
  pub are : rows ≡ first ++ rest
  pub blocked : is_blocked workload (before ++ first) worker ≡ true

-- a worker was not passed over: a job of it was done, or its first job was blocked
abbrev pub WasAsked : Workload → (before rows : List Row) → ℕ → Type 0
WasAsked workload before rows worker = (0 < count_done worker rows) ⊎ WasBlocked workload before rows worker

-- how often a worker's first job is blocked, where each is looked at before the rows and behind each of them
abbrev pub count_blocked : Workload → (before rows : List Row) → ℕ
count_blocked workload before [] = length (filter (is_blocked workload before) (all_workers workload))
count_blocked workload before (row ∷ rows) =
    length (filter (is_blocked workload before) (all_workers workload))
    + count_blocked workload (before ++ row ∷ []) rows

-- the attempts of an alone round that are of use: one for each row, and one for each time that a worker's first job is blocked
abbrev pub most_tries : Workload → (before rows : List Row) → ℕ
most_tries workload before rows = length rows + count_blocked workload before rows

-- rows of workers that rise
abbrev pub AreRising : List Row → Type 0
AreRising [] = Unit {0}
AreRising (row ∷ rows) = All (λ later. row.worker < later.worker) rows × AreRising rows

-- the rows of an alone round: jobs that were given up, and behind them those that were done, in a pass over the workers
pub record IsInOrder (rows : List Row) : Type 0 where
  pub given_up : List Row
  pub pass : List Row
  pub are : rows ≡ given_up ++ pass
  pub all_given_up : All (λ row. is_given_up row.replies ≡ true) given_up
  pub all_done : All (λ row. is_given_up row.replies ≡ false) pass
  pub rising : AreRising pass

-- an alone round: its one caller runs at most one job of each worker, and some job
pub record IsAlone (workload : Workload) (options : Options) (before rows : List Row) (round : Round) : Type 0 where
  pub one_caller : callers_of round ≡ 1
  pub some_row : 0 < length rows
  pub few : (worker : ℕ) → count_done worker rows ≤ 1
  -- the caller has made its events by calls, from the generator of the seed of the least worker that has jobs left on
  pub calls : IfSome (slice_get (workers_left workload before) 0) (λ worker. ByCalls (seed_for options worker) round 0)
  -- where no read is given up, the caller has let none go
  pub keeps : KeepsReads options workload.version → let_go_by round 0 ≡ 0
  -- no worker that had jobs left was passed over, unless the caller is spent
  pub asked :
      (worker : ℕ) → worker < workload.workers → has_job (left_by workload before) worker ≡ true
      → WasAsked workload before rows worker ⊎ IsSpent round 0
  -- no attempt was wasted
  pub attempts : begun_of round 0 ≤ most_tries workload before rows
  -- each committed, made sure of by its opens and its commit alone; or it was aborted, at a blocked job, and made sure of once more
  -- at most
  pub sighted : (i : ℕ) → 0 < i → i ≤ begun_of round 0 → WasSighted 1 round 0 i
  -- behind a job that was done none is given up, and no worker is asked again
  pub order : IsInOrder rows
  -- it went on until a job was done, unless no job is left or the caller is spent
  pub ended : (0 < length order.pass) ⊎ ((left_by workload (before ++ rows) ≡ []) ⊎ IsSpent round 0)

-- ---- jobs that are given up

-- a job is given up in an alone round only, and it is that of the least worker that has jobs left
pub record IsGivenUpRightly (workload : Workload) (before : List Row) (row : Row) : Type 0 where
  pub alone : is_parallel row.round ≡ false
  pub least : (worker : ℕ) → worker < row.worker → next_of workload before worker ≡ None

-- each of the rows whose job was given up
abbrev pub GiveUpRightly : Workload → (before rows : List Row) → Type 0
GiveUpRightly workload before [] = Unit {0}
GiveUpRightly workload before (row ∷ rows) =
    (is_given_up row.replies ≡ true → IsGivenUpRightly workload before row)
    × GiveUpRightly workload (before ++ row ∷ []) rows

-- ---- what rows keep of their reads

-- the transaction of a row whose job has operations on the list alone has few reads
abbrev pub KeepsFewReads : Workload → Row × Committed → Type 0
KeepsFewReads workload told = (job : Job) → job_of workload told.0 ≡ Some job → KeepsFew job told.1

-- ---- a round, and all rounds

-- The record of a round stands for its rows. Some rows of earlier rounds stand before them, and left these values.
pub record IsRoundOf (workload : Workload) (options : Options) (number : ℕ) (before rows : List Row)
    (values : List Val) (round : Round) : Type 0 where
  -- it is one of the engine of the options
  pub engine : IsOf options.engine round
  -- its table has the store's law and objects, and what happened on it is a run
  pub run : IsRun workload.layout round
  -- it has attempts and locators for the jobs that are left, and is as the options say
  pub made : IsMade options workload.version number (most_jobs workload number before) round
  -- it began with what the round before left
  pub begins : start_of round ≡ values
  -- the rows tell of the transactions that committed on it, one for one, in the order of their numbers
  pub rows_tell : TellOf workload before rows values (committed_of round)
  -- its workers ran beside one another, or one caller ran alone
  pub parallel : is_parallel number ≡ true → IsParallel workload options number before rows round
  pub alone : is_parallel number ≡ false → IsAlone workload options before rows round
  -- jobs were given up in alone rounds only, those of the least workers
  pub given_up : GiveUpRightly workload before rows
  -- with early release, walks along the list keep few reads
  pub released : IsReleasing options workload.version → All (KeepsFewReads workload) (zip rows (committed_of round))

-- the records, from the one of this round on, stand for the rows of their rounds
abbrev pub AreRoundsOf : Workload → Options → List Row → ℕ → List Row → List Val → List Round → Type 0
AreRoundsOf workload options rows number before values [] = Unit {0}
AreRoundsOf workload options rows number before values (round ∷ rounds) =
    IsRoundOf workload options number before (rows_in number rows) values round
    × AreRoundsOf workload options rows (number + 1) (before ++ rows_in number rows) (values_of round) rounds

-- The records stand for a report: there is a round 0, it began with the opening values, each record stands for the rows
-- of its round, and each row is of a round that has a record.
pub record StandFor (workload : Workload) (options : Options) (rounds : List Round) (report : Report) : Type 0 where
  pub some : 0 < length rounds
  pub each : AreRoundsOf workload options report.rows 0 [] (opening_values workload.layout) rounds
  pub all_rows : All (λ row. row.round < length rounds) report.rows

-- The records are those of the first rounds of a run, wherever it ended: they stand for good rows, one behind the other, from
-- the opening values on, and each row is of a round that has a record.
pub record AreFirstRounds (workload : Workload) (options : Options) (rounds : List Round) : Type 0 where
  pub rows : List Row
  pub good : RowsAreGood workload [] rows
  pub each : AreRoundsOf workload options rows 0 [] (opening_values workload.layout) rounds
  pub all_rows : All (λ row. row.round < length rounds) rows
