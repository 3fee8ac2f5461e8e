-- What attempts at a job leave.
use Rattle.std.specs.Prelude.{◌≡◌, ◌⊎◌, ℕ, ◌<◌, ◌≤◌, ◌==◌, true, false, ◌∷◌, Option, Some, if◌then◌else◌}
use Rattle.dstm_model.specs.Answers.{Committed}
use Rattle.dstm_model.specs.declared.layout.Layout.{Layout}
use Rattle.dstm_workload.specs.declared.workload.Job.{Job}
use Rattle.dstm_workload.specs.declared.workload.Workload.{Workload}
use Rattle.dstm_jobs.specs.Answers.{AreOfJob, AreOfSome, IsBlockedWith, IsDone, KeepsFew}
use Rattle.dstm_jobs.specs.declared.style.Style.{Style}
use Rattle.dstm_jobs.specs.declared.style.Style.TheVariants.{Branches, Loose}
use Rattle.dstm_jobs.specs.declared.trying.Finished.{Finished}
use Rattle.dstm_jobs.specs.declared.trying.Tried.{Tried}
use Rattle.dstm_jobs.specs.declared.trying.Tried.TheVariants as tried
use Rattle.dstm_engine.specs.Attempts.{SightedByOpens}
use Rattle.dstm_tables.specs.declared.tables.Caller.TheVariants.{Dstm, Tl2}
use Rattle.dstm_jobs.specs.Law.{keeps}
use Rattle.dstm_jobs.specs.Tables.{Caller, IsSpentFrom, OneMore, Round, WasKept}
use Rattle.dstm_tables.specs.Callers.{begun, done, number_of, round_of}
use Rattle.dstm_tables.specs.Tells.{HasCommitted, HasFewSights, IsSpent, WasAborted, WasDisturbed, WasGivenUpAfter, begun_of, lets_go, seen_of, used_by, writes_all}

-- ---- attempts at the job that is next

-- it stood at a blocked job: it was given up, and the job is blocked on every lawful map that agrees with what it has read,
-- which is of the job's objects alone
pub record StoodBlocked (layout : Layout) (round : Round) (c i : ℕ) (job : Option Job) : Type 0 where
  pub given_up : WasGivenUpAfter 1024 round c i
  pub blocked : IsBlockedWith layout (seen_of round c i) job
  pub inside : AreOfSome layout (seen_of round c i) job

-- in version 3 an attempt may have stood at this job
pub record Waited (workload : Workload) (job : Option Job) (round : Round) (c i : ℕ) : Type 0 where
  pub version : workload.version ≡ 3
  pub stood : StoodBlocked workload.layout round c i job

-- how often an attempt of a workload of this version makes sure at a job that is blocked that what it has read stands
abbrev pub rechecks_in : (version : ℕ) → ℕ
rechecks_in version = if version == 3 then 1024 else 0

-- each attempt of the caller committed, made sure of by its opens and its commit alone; or was disturbed, and made sure of so many
-- times more at most; or is the last one, and stood at the job
abbrev pub NoneWasted : Workload → Option Job → Round → ℕ → Type 0
NoneWasted workload next round c =
    (i : ℕ) → 0 < i → i ≤ begun_of round c →
    (HasCommitted round c i × HasFewSights 0 round c i)
    ⊎ ((WasDisturbed round c i × HasFewSights (rechecks_in workload.version) round c i)
    ⊎ ((i ≡ begun_of round c) × Waited workload next round c i))

-- the caller is spent, or its last attempt stood at the job
abbrev pub HadToStop : Workload → Option Job → Round → ℕ → Type 0
HadToStop workload next round c =
    IsSpent round c ⊎ ((0 < begun_of round c) × Waited workload next round c (begun_of round c))

-- ---- one attempt

-- under DSTM the last attempt, which has committed, was made sure of by its opens and its commit alone
abbrev pub WasSightedByOpens : Caller → Type 0
WasSightedByOpens (Dstm k) = SightedByOpens keeps k
WasSightedByOpens (Tl2 k) = Unit {0}

-- It did the job: its transaction is the newest one that the caller has committed. A loose one keeps few reads, where reads
-- are let go. It was made sure of by its opens and its commit alone.
pub record DidJob (style : Style) (layout : Layout) (job : Job) (k n : Caller) (finished : Finished) : Type 0 where
  pub made : OneMore k n
  pub committed : HasCommitted (round_of n) (number_of n) (begun n)
  pub by : Committed
  pub newest : done n ≡ by ∷ done k
  pub is : IsDone layout job finished by
  pub few_reads : style ≡ Loose → lets_go (round_of n) ≡ true → KeepsFew job by
  pub sighted : style ≡ Branches → WasSightedByOpens n
  pub few_sights : HasFewSights 0 (round_of n) (number_of n) (begun n)

-- It was given up at the job, which has branches: the job is blocked on every lawful map that agrees with what it has read.
-- That is of the job's objects alone. Under DSTM it had made sure so many times that this stands, and has used no locator
-- where reads stay reads.
pub record StoodAt (style : Style) (rechecks : ℕ) (layout : Layout) (job : Job) (k n : Caller) : Type 0 where
  pub branches : style ≡ Branches
  pub made : OneMore k n
  pub given_up : WasGivenUpAfter rechecks (round_of n) (number_of n) (begun n)
  pub uncommitted : HasCommitted (round_of n) (number_of n) (begun n) → ⊥
  pub aborted : WasAborted (round_of n) (number_of n) (begun n)
  pub blocked : IsBlockedWith layout (seen_of (round_of n) (number_of n) (begun n)) (Some job)
  pub inside : AreOfJob layout job.ops (seen_of (round_of n) (number_of n) (begun n))
  pub unused : writes_all (round_of k) ≡ false → used_by (round_of n) (number_of n) ≡ used_by (round_of k) (number_of k)
  pub same_done : done n ≡ done k

-- how often an attempt of this style makes sure beside its opens that what it has read stands: at a blocked job alone
abbrev pub rechecks_by : Style → (rechecks : ℕ) → ℕ
rechecks_by Branches rechecks = rechecks
rechecks_by style rechecks = 0

-- how an attempt at a job ended
abbrev pub HasTried : Style → (rechecks : ℕ) → Layout → Job → (k n : Caller) → Tried → Type 0
HasTried style rechecks layout job k n (tried.Done finished) = DidJob style layout job k n finished
HasTried style rechecks layout job k n tried.Again = WasKept (rechecks_by style rechecks) k n
HasTried style rechecks layout job k n tried.Spent = IsSpentFrom k n
HasTried style rechecks layout job k n tried.Blocked = StoodAt style rechecks layout job k n
