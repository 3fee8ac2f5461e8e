-- What a job with branches does on a map: what the branch that is taken does, or nothing.
use Rattle.std.specs.Prelude.{◌≡◌, ◌<◌, ℕ, Bool, true, false, nat_le, List, [], ◌∷◌, All, Contains, Option, Some, None}
use Rattle.std.specs.Prelude.{IfSome, IsSomeAnd, if◌then◌else◌}
use Rattle.dstm_model.specs.declared.value.Val.{Val}
use Rattle.dstm_model.specs.declared.layout.Layout.{Layout}
use Rattle.dstm_model.specs.declared.op.Cond.{Cond}
use Rattle.dstm_model.specs.declared.op.Cond.TheVariants as cond
use Rattle.dstm_model.specs.declared.op.Op.{Op}
use Rattle.dstm_model.specs.declared.op.Op.TheVariants.{Balance, Total, Member, Await}
use Rattle.dstm_model.specs.declared.reply.Reply.{Reply}
use Rattle.dstm_model.specs.declared.reply.Reply.TheVariants.{Number, Yes}
use Rattle.dstm_model.specs.Layout.{IsValid, FitsLayout}
use Rattle.dstm_model.specs.Store.{Store}
use Rattle.dstm_model.specs.Job.{JobOutcome, apply_job, branches_of, is_open, open_branch}
use Rattle.dstm_store.specs.declared.job.JobTask.{JobTask}
use Rattle.dstm_store.specs.Whole.{StandsFor}
use Rattle.dstm_store.specs.Concerns.{Concerns}
use Rattle.dstm_store.specs.Opens.{OnlyLooksAt, SetsIfOpened}
use Rattle.dstm_compose.specs.declared.body.Outcome.{Outcome}
use Rattle.dstm_compose.specs.declared.body.Outcome.TheVariants.{Ran, Blocked}

-- a job with branches: what it was made to do, and how its last run ended
pub record Composition : Type 0 where
  pub task : JobTask
  pub outcome : Outcome

-- the layout is valid, and each operation and each condition fits it
pub record CanChoose (task : JobTask) : Type 0 where
  pub valid : IsValid task.layout
  pub fits : All (FitsLayout task.layout) task.ops

-- how a job ends that does this
abbrev pub outcome_of : Option JobOutcome → Outcome
outcome_of None = Blocked
outcome_of (Some done) = Ran done.replies

-- the store that a job leaves which does this
abbrev pub store_left : Store → Option JobOutcome → Store
store_left store None = store
store_left store (Some done) = done.store

-- the job is blocked in whatever store the map stands for
abbrev pub IsBlockedOn : JobTask → List Val → Type 0
IsBlockedOn task map = (store : Store) → StandsFor task.layout map store → apply_job task.ops store ≡ None

-- Whatever store the map before stands for, the job ends as it does on it, and the map after stands for the store
-- that it leaves. A job that ended blocked is blocked in that store, and leaves the map as it was.
pub record IsRight (task : JobTask) (before after : List Val) (outcome : Outcome) : Type 0 where
  pub does : (store : Store) → StandsFor task.layout before store →
      (outcome ≡ outcome_of (apply_job task.ops store))
      × StandsFor task.layout after (store_left store (apply_job task.ops store))
  pub blocked : outcome ≡ Blocked → IsBlockedOn task before
  pub unchanged : outcome ≡ Blocked → after ≡ before

-- an account of a job that ran and asks for the total in each branch, which reads every account
pub record Audits (task : JobTask) (outcome : Outcome) (account : ℕ) : Type 0 where
  pub ran : (replies : List Reply) × (outcome ≡ Ran replies)
  pub totals : All (λ branch. Contains branch Total) (branches_of task.ops)
  pub within : account < task.layout.accounts

-- an account of a job whose open branch in this store asks for the total, which reads every account
abbrev pub AuditsIn : JobTask → Store → ℕ → Type 0
AuditsIn task store account =
    IsSomeAnd (open_branch task.ops store) (λ branch. Contains branch Total) × (account < task.layout.accounts)

-- the replies that a job which ends so has
abbrev pub replies_of : Outcome → List Reply
replies_of Blocked = []
replies_of (Ran replies) = replies

-- of the branch that is open in this store, each operation that is about object o is a look, by its reply
abbrev pub OnlyLooksIn : JobTask → Store → Outcome → ℕ → Type 0
OnlyLooksIn task store outcome o =
    IfSome (open_branch task.ops store)
    (λ branch. OnlyLooksAt (record { layout = task.layout; ops = branch }) (replies_of outcome) o)

-- of the branch that is open in this store, each operation that is about object o sets whatever it newly opens for
-- writing, by its reply
abbrev pub SetsIfOpenedIn : JobTask → Store → Outcome → ℕ → Type 0
SetsIfOpenedIn task store outcome o =
    IfSome (open_branch task.ops store)
    (λ branch. SetsIfOpened (record { layout = task.layout; ops = branch }) (replies_of outcome) o)

-- the condition that a branch begins with
abbrev pub condition_of : List Op → Option Cond
condition_of (Await c ∷ ops) = Some c
condition_of ops = None

-- the operation that looks at what a condition is about
abbrev pub look_of : Cond → Op
look_of (cond.Balance account least) = Balance account
look_of (cond.Key which key) = Member which key

-- a condition among these operations is about object o: this is its account, or any object of its structure
abbrev pub IsAwaited : Layout → List Op → ℕ → Type 0
IsAwaited layout ops o = (c : Cond) × Contains ops (Await c) × Concerns layout (look_of c) o

-- an object that no operation of the job is about, and no condition
pub record IsForeign (task : JobTask) (o : ℕ) : Type 0 where
  pub unnamed : All (λ op. ¬ (Concerns task.layout op o)) task.ops
  pub unawaited : ¬ (IsAwaited task.layout task.ops o)

-- such an object is neither held nor opened for writing
abbrev pub KeepsOut : JobTask → (held : ℕ → Option Val) → (opened : ℕ → Bool) → Type 0
KeepsOut task held opened = (o : ℕ) → IsForeign task o → (held o ≡ None) × (opened o ≡ false)

-- of these branches, those up to the first that is open; all, where none is
abbrev pub up_to_open : Store → List (List Op) → List (List Op)
up_to_open store [] = []
up_to_open store (branch ∷ later) = branch ∷ (if is_open store branch then [] else up_to_open store later)

-- one of these branches up to the first that is open awaits object o
abbrev pub IsAwaitedFirst : Layout → Store → List (List Op) → ℕ → Type 0
IsAwaitedFirst layout store branches o =
    (branch : List Op) × Contains (up_to_open store branches) branch × IsAwaited layout branch o

-- its reply shows that the condition holds
abbrev pub shows : Cond → Reply → Bool
shows (cond.Balance account least) (Number balance) = nat_le least balance
shows (cond.Key which key) Yes = true
shows condition reply = false
