-- Private: attempts at a job until one is done, or none is left.
use Rattle.std.specs.Prelude.{◌≡◌, ℕ, ◌+◌, ◌<◌, ◌≤◌, true, ◌∷◌, Some}
use Rattle.dstm_model.specs.Answers.{Committed}
use Rattle.dstm_model.specs.declared.layout.Layout.{Layout}
use Rattle.dstm_workload.specs.declared.workload.Job.{Job}
use Rattle.dstm_jobs.specs.declared.style.Style.{Style}
use Rattle.dstm_jobs.specs.declared.style.Style.TheVariants.{Branches, Loose}
use Rattle.dstm_jobs.specs.Tables.{Caller, GoesOn}
use Rattle.dstm_jobs.specs.declared.trying.Finished.{Finished}
use Rattle.dstm_jobs.specs.declared.trying.Left.{Left}
use Rattle.dstm_jobs.specs.declared.trying.Left.TheVariants as left
use Rattle.dstm_jobs.specs.Answers.{IsDone, KeepsFew}
use Rattle.dstm_tables.specs.Callers.{begun, done, number_of, round_of}
use Rattle.dstm_jobs.specs.Jobs.{StoodBlocked, rechecks_by}
use Rattle.dstm_tables.specs.Tries.{WasNotWasted}
use Rattle.dstm_tables.specs.Tells.{IsSpent, lets_go}

-- no attempt of this style since was wasted, up to this number
abbrev pub NoneWastedSince : Style → (k n : Caller) → ℕ → Type 0
NoneWastedSince style k n most = (i : ℕ) → begun k < i → i ≤ most → WasNotWasted (rechecks_by style 1024) n i

-- the last attempt did the job, and those before it were kept from that
pub record HasDone (style : Style) (layout : Layout) (job : Job) (k n : Caller) (finished : Finished) : Type 0 where
  pub on : GoesOn k n
  pub none_wasted : NoneWastedSince style k n (begun n)
  pub by : Committed
  pub newest : done n ≡ by ∷ done k
  pub is : IsDone layout job finished by
  pub few_reads : style ≡ Loose → lets_go (round_of n) ≡ true → KeepsFew job by

-- no attempt is left
pub record HasNoneLeft (style : Style) (k n : Caller) : Type 0 where
  pub on : GoesOn k n
  pub none_wasted : NoneWastedSince style k n (begun n)
  pub spent : IsSpent (round_of n) (number_of n)
  pub same_done : done n ≡ done k

-- the last attempt stood at the job
pub record StaysBlocked (style : Style) (layout : Layout) (job : Job) (k n : Caller) : Type 0 where
  pub branches : style ≡ Branches
  pub on : GoesOn k n
  pub last : ℕ
  pub is_last : begun n ≡ last + 1
  pub none_wasted : NoneWastedSince style k n last
  pub stood : StoodBlocked layout (round_of n) (number_of n) (begun n) (Some job)
  pub same_done : done n ≡ done k

-- why a job was not done
abbrev pub HasLeft : Style → Layout → Job → (k n : Caller) → Left → Type 0
HasLeft style layout job k n left.Spent = HasNoneLeft style k n
HasLeft style layout job k n left.Blocked = StaysBlocked style layout job k n
