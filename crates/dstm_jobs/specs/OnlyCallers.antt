-- What a try of a table's only caller leaves: nobody keeps it from its commit.
use Rattle.std.specs.Prelude.{◌≡◌, ℕ, false, List, [], ◌∷◌, None, reverse}
use Rattle.dstm_model.specs.declared.value.Val.{Val}
use Rattle.dstm_model.specs.declared.layout.Layout.{Layout}
use Rattle.dstm_model.specs.Answers.{Committed}
use Rattle.dstm_model.specs.Job.{apply_job}
use Rattle.dstm_model.specs.Map.{state_after}
use Rattle.dstm_model.specs.Store.{Store}
use Rattle.dstm_store.specs.Whole.{StandsFor}
use Rattle.dstm_workload.specs.declared.workload.Job.{Job}
use Rattle.dstm_tables.specs.Tells.{HasCommitted, HasFewSights, WasAborted, WasGivenUpAfter, entries_of, seen_of, start_of, used_by, writes_all}
use Rattle.dstm_jobs.specs.declared.only.OnlyTried.{OnlyTried}
use Rattle.dstm_jobs.specs.declared.only.OnlyTried.TheVariants as tried
use Rattle.dstm_jobs.specs.declared.style.Style.{Style}
use Rattle.dstm_jobs.specs.declared.style.Style.TheVariants.{Branches}
use Rattle.dstm_jobs.specs.Tables.{Caller, IsSpentFrom, OneMore}
use Rattle.dstm_tables.specs.Callers.{begun, done, number_of, round_of}
use Rattle.dstm_jobs.specs.Answers.{AreOfJob}
use Rattle.dstm_jobs.specs.Jobs.{DidJob}

-- what the caller's transactions have left in the objects
abbrev pub left_by : Caller → List Val
left_by k = state_after (start_of (round_of k)) (entries_of (reverse (done k)))

-- The attempt was given up: the job is blocked in the store that the caller's transactions have left. Under DSTM it has
-- made sure once that what it had read stands. It has read the job's objects alone, and where reads stay reads it has used
-- no locator.
pub record StoodAlone (style : Style) (layout : Layout) (job : Job) (k n : Caller) : Type 0 where
  pub branches : style ≡ Branches
  pub made : OneMore k n
  pub given_up : WasGivenUpAfter 1 (round_of n) (number_of n) (begun n)
  pub aborted : WasAborted (round_of n) (number_of n) (begun n)
  pub same_done : done n ≡ done k
  pub blocked : (store : Store) → StandsFor layout (left_by n) store → apply_job job.ops store ≡ None
  pub inside : AreOfJob layout job.ops (seen_of (round_of n) (number_of n) (begun n))
  pub unused : writes_all (round_of k) ≡ false → used_by (round_of n) (number_of n) ≡ used_by (round_of k) (number_of k)

abbrev pub HasTriedAlone : Style → Layout → Job → (k n : Caller) → OnlyTried → Type 0
HasTriedAlone style layout job k n (tried.Done finished) = DidJob style layout job k n finished
HasTriedAlone style layout job k n tried.Blocked = StoodAlone style layout job k n
HasTriedAlone style layout job k n tried.Spent = IsSpentFrom k n

-- a transaction has committed that read and wrote nothing, and made sure of nothing but by its commit
pub record HasGivenUp (k n : Caller) (number : ℕ) : Type 0 where
  pub made : OneMore k n
  pub by : Committed
  pub newest : done n ≡ by ∷ done k
  pub drew : number ≡ by.number
  pub nothing_read : by.entry.reads ≡ []
  pub nothing_written : by.entry.writes ≡ []
  pub committed : HasCommitted (round_of n) (number_of n) (begun n)
  pub few_sights : HasFewSights 0 (round_of n) (number_of n) (begun n)
