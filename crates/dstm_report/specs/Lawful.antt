-- Which reports are lawful for a workload: those that one thread could have given.
use Rattle.std.specs.Prelude.{◌≡◌, ℕ, ◌+◌, ◌<◌, ◌⊎◌, ◌==◌, Bool, not, if◌then◌else◌, List, [], ◌∷◌, ◌++◌, length, take}
use Rattle.std.specs.Prelude.{filter, find, Option, Some, None, IfSome}
use Rattle.std.specs.List.{list_any, slice_get}
use Rattle.dstm_model.specs.declared.reply.Reply.{Reply}
use Rattle.dstm_model.specs.declared.reply.Reply.TheVariants.{Never}
use Rattle.dstm_model.specs.Store.{Store, opening_store, state_of}
use Rattle.dstm_model.specs.Job.{JobOutcome, apply_job}
use Rattle.dstm_workload.specs.declared.workload.Job.{Job}
use Rattle.dstm_workload.specs.declared.workload.Workload.{Workload}
use Rattle.dstm_report.specs.declared.report.Row.{Row}
use Rattle.dstm_report.specs.declared.report.Report.{Report}
use Rattle.dstm_report.specs.declared.verdict.Verdict.{Verdict}
use Rattle.dstm_report.specs.declared.verdict.Verdict.TheVariants.{Lawful, NotLawful}

-- ---- which job is next

-- a row names the job of its line
abbrev pub is_named : List Row → Job → Bool
is_named rows job = list_any (λ row. row.line == job.line) rows

-- the jobs that no row names yet
abbrev pub jobs_left : List Job → List Row → List Job
jobs_left jobs rows = filter (λ job. not (is_named rows job)) jobs

-- the first job of a worker
abbrev pub first_job : ℕ → List Job → Option Job
first_job worker jobs = find (λ job. job.worker == worker) jobs

-- ---- the store after rows

-- what a job leaves: a blocked one leaves the store as it was
abbrev pub store_left : Option JobOutcome → Store → Store
store_left None store = store
store_left (Some outcome) store = outcome.store

abbrev pub after_job : Option Job → Store → Store
after_job None store = store
after_job (Some job) store = store_left (apply_job job.ops store) store

-- the store after rows: each row's job is applied
abbrev pub after_rows : List Job → List Row → Store → Store
after_rows jobs [] store = store
after_rows jobs (row ∷ rows) store = after_rows jobs rows (after_job (find (λ job. job.line == row.line) jobs) store)

-- the store that rows leave in a workload
abbrev pub store_after : Workload → List Row → Store
store_after workload rows = after_rows workload.jobs rows (opening_store workload.layout)

-- ---- rows

-- the row before has a smaller pair of round and number
abbrev pub IsBefore : Row → Row → Type 0
IsBefore previous row = (previous.round < row.round) ⊎ ((previous.round ≡ row.round) × (previous.number < row.number))

-- the last of the rows
abbrev pub last_row : List Row → Option Row
last_row [] = None
last_row (row ∷ []) = Some row
last_row (row ∷ next ∷ rows) = last_row (next ∷ rows)

-- the first job of each worker, of those that are left, is blocked
abbrev pub AreBlocked : List Job → Store → Type 0
AreBlocked left store = (worker : ℕ) → IfSome (first_job worker left) (λ job. apply_job job.ops store ≡ None)

abbrev pub AllBlocked : Workload → List Row → Type 0
AllBlocked workload before = AreBlocked (jobs_left workload.jobs before) (store_after workload before)

-- the replies that a job gives; where it is blocked, `never` alone, and only where this holds
abbrev pub AnswersWhere : Type 0 → Option JobOutcome → List Reply → Type 0
AnswersWhere Stuck (Some outcome) replies = replies ≡ outcome.replies
AnswersWhere Stuck None replies = (replies ≡ Never ∷ []) × Stuck

-- a job is given up only where no worker can go on
abbrev pub IsAnswer : Workload → List Row → Option JobOutcome → List Reply → Type 0
IsAnswer workload before outcome replies = AnswersWhere (AllBlocked workload before) outcome replies

-- a row stands rightly behind the rows before it
pub record IsGoodRow (workload : Workload) (before : List Row) (row : Row) : Type 0 where
  -- it names the first job of its worker that no row before it names
  pub job : Job
  pub turn : first_job row.worker (jobs_left workload.jobs before) ≡ Some job
  pub line : row.line ≡ job.line
  pub number : IfSome (last_row before) (λ previous. IsBefore previous row)
  pub replies : IsAnswer workload before (apply_job job.ops (store_after workload before)) row.replies

-- each of these rows stands rightly behind those before it
abbrev pub RowsAreGood : Workload → List Row → List Row → Type 0
RowsAreGood workload before [] = Unit {0}
RowsAreGood workload before (row ∷ rows) =
    IsGoodRow workload before row × RowsAreGood workload (before ++ row ∷ []) rows

-- ---- reports

-- what stands for a structure: nothing where it is not declared
abbrev pub declared_as : {A : Type 0} → ℕ → A → Option A
declared_as size content = if size == 0 then None else Some content

-- the report is one that one thread could have given
pub record IsLawful (workload : Workload) (report : Report) : Type 0 where
  pub version : report.version ≡ workload.version
  pub rows : RowsAreGood workload [] report.rows
  pub bank : report.bank ≡ declared_as workload.layout.accounts (state_of (store_after workload report.rows)).bank
  pub list : report.list ≡ declared_as workload.layout.list (state_of (store_after workload report.rows)).list
  pub tree : report.tree ≡ declared_as workload.layout.tree (state_of (store_after workload report.rows)).tree
  pub count : report.count ≡ length report.rows
  -- every job is named
  pub whole : length report.rows ≡ length workload.jobs

-- ---- the lines of a report's text

-- how many lines stand for a structure
abbrev pub shown : {A : Type 0} → Option A → ℕ
shown None = 0
shown (Some content) = 1

-- where the lines behind the rows stand; the rows stand from line 2 on
abbrev pub bank_line : Report → ℕ
bank_line report = length report.rows + 2

abbrev pub list_line : Report → ℕ
list_line report = bank_line report + shown report.bank

abbrev pub tree_line : Report → ℕ
tree_line report = list_line report + shown report.list

abbrev pub end_line : Report → ℕ
end_line report = tree_line report + shown report.tree

-- a line is good if what stands there, or has to stand there, is right
pub record IsGoodLine (workload : Workload) (report : Report) (line : ℕ) : Type 0 where
  pub header : line ≡ 1 → report.version ≡ workload.version
  pub row : (i : ℕ) (row : Row) → slice_get report.rows i ≡ Some row → line ≡ i + 2 →
      IsGoodRow workload (take i report.rows) row
  pub bank : line ≡ bank_line report →
      report.bank ≡ declared_as workload.layout.accounts (state_of (store_after workload report.rows)).bank
  pub list : line ≡ list_line report →
      report.list ≡ declared_as workload.layout.list (state_of (store_after workload report.rows)).list
  pub tree : line ≡ tree_line report →
      report.tree ≡ declared_as workload.layout.tree (state_of (store_after workload report.rows)).tree
  pub count : line ≡ end_line report → report.count ≡ length report.rows
  pub whole : line ≡ end_line report → length report.rows ≡ length workload.jobs

-- the first line that is not good
pub record IsFirstBadLine (workload : Workload) (report : Report) (line : ℕ) : Type 0 where
  pub bad : ¬ (IsGoodLine workload report line)
  pub first : (earlier : ℕ) → earlier < line → IsGoodLine workload report earlier

-- a verdict tells whether the report is lawful, and where it is not
abbrev pub Tells : Workload → Report → Verdict → Type 0
Tells workload report Lawful = IsLawful workload report
Tells workload report (NotLawful line) = IsFirstBadLine workload report line
