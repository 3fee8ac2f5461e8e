-- Private: rows and the transactions that they tell of, as they come: whose turn it is when a row is made.
use Rattle.std.specs.Prelude.{◌≡◌, ◌⊎◌, List, [], ◌∷◌, ◌++◌, Some}
use Rattle.dstm_model.specs.declared.reply.Reply.TheVariants.{Never}
use Rattle.dstm_model.specs.Answers.{Committed}
use Rattle.dstm_workload.specs.declared.workload.Job.{Job}
use Rattle.dstm_workload.specs.declared.workload.Workload.{Workload}
use Rattle.dstm_report.specs.declared.report.Row.{Row}
use Rattle.dstm_report.specs.Lawful.{AllBlocked, first_job}
use Rattle.dstm_jobs.specs.Answers.{IsAnsweredBy}
use Rattle.dstm_records.specs.Records.{IsGivenUpRightly}
use Rattle.dstm_records.specs.Rounds.{left_by}

-- a job is given up rightly, by a transaction that reads and writes nothing, where the first job left of each worker is
-- blocked
pub record IsGivenUp (workload : Workload) (before : List Row) (row : Row) (done : Committed) : Type 0 where
  pub replies : row.replies ≡ Never ∷ []
  pub nothing_read : done.entry.reads ≡ []
  pub nothing_written : done.entry.writes ≡ []
  pub blocked : AllBlocked workload before
  pub rightly : IsGivenUpRightly workload before row

-- the row is of the first job left of its worker, and the transaction has done it or gave it up
pub record IsTold (workload : Workload) (before : List Row) (row : Row) (done : Committed) : Type 0 where
  pub job : Job
  pub turn : first_job row.worker (left_by workload before) ≡ Some job
  pub line : row.line ≡ job.line
  pub number : row.number ≡ done.number
  pub answer : IsAnsweredBy workload.layout job.ops row.replies done.entry ⊎ IsGivenUp workload before row done

-- the rows tell of the transactions, one for one, each behind those before it
abbrev pub AreTold : Workload → List Row → List Row → List Committed → Type 0
AreTold workload before [] [] = Unit {0}
AreTold workload before [] (done ∷ more) = ⊥
AreTold workload before (row ∷ rows) [] = ⊥
AreTold workload before (row ∷ rows) (done ∷ more) =
    IsTold workload before row done × AreTold workload (before ++ row ∷ []) rows more
