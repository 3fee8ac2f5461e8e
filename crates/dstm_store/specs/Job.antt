-- What a job does on a map: all its operations in order.
use Rattle.std.specs.Prelude.{◌≡◌, ◌<◌, ◌≤◌, ℕ, Bool, true, false, List, All, Contains, Option, None, sum_by}
use Rattle.dstm_model.specs.declared.value.Val.{Val}
use Rattle.dstm_model.specs.declared.op.Op.TheVariants.{Total}
use Rattle.dstm_model.specs.declared.reply.Reply.{Reply}
use Rattle.dstm_model.specs.Layout.{IsValid, FitsLayout}
use Rattle.dstm_model.specs.Store.{Store, IsPlain}
use Rattle.dstm_model.specs.Job.{apply_all}
use Rattle.dstm_store.specs.declared.job.JobTask.{JobTask}
use Rattle.dstm_store.specs.Concerns.{Concerns}
use Rattle.dstm_store.specs.Keeps.{is_of_list, most_kept}
use Rattle.dstm_store.specs.Whole.{StandsFor}

-- a job: what it was made to do, and the replies that it keeps
pub record Job : Type 0 where
  pub task : JobTask
  pub replies : List Reply

-- the layout is valid, and each operation fits it and is applied by itself
pub record CanRun (task : JobTask) : Type 0 where
  pub valid : IsValid task.layout
  pub fits : All (FitsLayout task.layout) task.ops
  pub plain : All IsPlain task.ops

-- whatever store the map before stands for, the replies are those of the operations in order on it, and
-- the map after stands for the store that they leave
abbrev pub DoesAll : JobTask → List Val → List Val → List Reply → Type 0
DoesAll task before after replies =
    (store : Store) → StandsFor task.layout before store →
    (replies ≡ (apply_all task.ops store).replies) × StandsFor task.layout after (apply_all task.ops store).store

-- an account of a job that asks for the total, which reads every account
abbrev pub Audits : JobTask → ℕ → Type 0
Audits task account = Contains task.ops Total × (account < task.layout.accounts)

-- an object that none of the job's operations is about
abbrev pub IsForeign : JobTask → ℕ → Type 0
IsForeign task o = All (λ op. ¬ (Concerns task.layout op o)) task.ops

-- such an object is neither held nor opened for writing
abbrev pub KeepsOut : JobTask → (held : ℕ → Option Val) → (opened : ℕ → Bool) → Type 0
KeepsOut task held opened = (o : ℕ) → IsForeign task o → (held o ≡ None) × (opened o ≡ false)

-- where reads are let go, a job of operations on the list keeps at most what they keep, one by one
abbrev pub KeepsAtMost : JobTask → ℕ → Type 0
KeepsAtMost task most = All (λ op. is_of_list op ≡ true) task.ops × (sum_by most_kept task.ops ≤ most)
