-- What a worker has done in a round.
use Rattle.std.specs.Prelude.{◌≡◌, ℕ, ◌<◌, ◌≤◌, true, List, [], ◌∷◌, length, reverse, zip, All, Option}
use Rattle.std.specs.List.{slice_get}
use Rattle.std.specs.Option.{option_map}
use Rattle.dstm_model.specs.Answers.{Committed}
use Rattle.dstm_model.specs.declared.layout.Layout.{Layout}
use Rattle.dstm_workload.specs.declared.workload.Job.{Job}
use Rattle.dstm_workload.specs.declared.workload.Workload.{Workload}
use Rattle.dstm_report.specs.Turns.{job_at}
use Rattle.dstm_options.specs.declared.options.Options.{Options}
use Rattle.dstm_jobs.specs.Tables.{AtRest, GoesOn, Table}
use Rattle.dstm_jobs.specs.declared.trying.Finished.{Finished}
use Rattle.dstm_jobs.specs.Answers.{IsDone, KeepsFew}
use Rattle.dstm_tables.specs.Callers as callers
use Rattle.dstm_tables.specs.Callers.{begun, done, home_of, law_of, number_of, round_of}
use Rattle.dstm_jobs.specs.Jobs.{HadToStop, NoneWasted}
use Rattle.dstm_tables.specs.Tells.{lets_go}
use Rattle.dstm_records.specs.Records.{IsReleasing}
use Rattle.dstm_crew.specs.declared.worker.Worker.{Worker}

-- What was done of the jobs at some places, from the first on: each by a transaction that committed.
abbrev pub AreDone : Layout → List Job → (places : List ℕ) → List Finished → List Committed → Type 0
AreDone layout jobs places [] [] = Unit {0}
AreDone layout jobs (place ∷ places) (finished ∷ more) (by ∷ later) =
    IsDone layout (job_at jobs place) finished by × AreDone layout jobs places more later
AreDone layout jobs places finished by = ⊥

-- the lines of the jobs at some places, from the first on
abbrev pub AreLines : List Job → (places lines : List ℕ) → Type 0
AreLines jobs places [] = Unit {0}
AreLines jobs (place ∷ places) (line ∷ lines) = ((job_at jobs place).line ≡ line) × AreLines jobs places lines
AreLines jobs [] (line ∷ lines) = ⊥

-- the job at the first place behind those that were done, if there is one
abbrev pub next_job : List Job → (places : List ℕ) → List Finished → Option Job
next_job jobs places finished = option_map (job_at jobs) (slice_get places (length finished))

-- ---- a worker in a round

-- a worker of the table that has done nothing yet
pub record IsReady (workload : Workload) (table : Table) (worker : Worker) : Type 0 where
  pub home : home_of worker.caller ≡ table
  pub law : (law_of worker.caller).layout ≡ workload.layout
  pub rest : AtRest worker.caller
  pub none_begun : begun worker.caller ≡ 0
  pub none_done : done worker.caller ≡ []
  pub within : All (λ place. place < length workload.jobs) worker.places.items
  pub empty : worker.done.items ≡ []
  pub no_lines : worker.done.lines ≡ []
  pub room : length worker.places.items ≤ worker.done.room

-- a worker that has run its jobs
pub record HasRun (workload : Workload) (options : Options) (old new : Worker) : Type 0 where
  pub number : new.number ≡ old.number
  pub places : new.places.items ≡ old.places.items
  pub on : GoesOn old.caller new.caller
  -- what it has done, one for one, by the transactions that its caller has committed, in order
  pub done : AreDone workload.layout workload.jobs new.places.items new.done.items (reverse (done new.caller))
  -- and their lines
  pub lines : AreLines workload.jobs new.places.items new.done.lines
  -- no attempt of its caller was wasted
  pub none_wasted : NoneWasted workload (next_job workload.jobs new.places.items new.done.items)
      (round_of new.caller) (number_of new.caller)
  -- it left jobs behind only where it had to
  pub left : length new.done.items < length new.places.items
      → HadToStop workload (next_job workload.jobs new.places.items new.done.items)
      (round_of new.caller) (number_of new.caller)
  -- with early release, walks along the list keep few reads
  pub few_reads : IsReleasing options workload.version → lets_go (round_of new.caller) ≡ true →
      All (λ told. KeepsFew (job_at workload.jobs told.0) told.1) (zip new.places.items (reverse (callers.done new.caller)))
