-- What a transaction has read and written is what its attempt held and had opened, under either engine.
use Rattle.std.proofs.Common.{◌≡◌, ◌∙◌, ℕ, Bool, List, Option, ap, subst}
use Rattle.dstm_model.specs.declared.layout.Layout.{Layout}
use Rattle.dstm_model.specs.declared.op.Op.{Op}
use Rattle.dstm_model.specs.declared.value.Val.{Val}
use Rattle.dstm_model.specs.Map.{Entry}
use Rattle.dstm_tables.specs.Tries.{IsLeftBy}
use Rattle.dstm_store.specs.declared.job.JobTask.{JobTask}
use Rattle.dstm_store.specs.Job as store
use Rattle.dstm_compose.specs.Compose.{IsForeign, KeepsOut}
use Rattle.dstm_jobs.specs.Answers.{StaysOut}

-- of each object that is foreign to the job nothing is held or opened
abbrev pub KeepsOutOf : Layout → List Op → (held : ℕ → Option Val) → (opened : ℕ → Bool) → Type 0
KeepsOutOf layout ops held opened = KeepsOut (record { layout = layout; ops = ops }) held opened

task_is : (layout : Layout) (ops : List Op) (task : JobTask) → task.layout ≡ layout → task.ops ≡ ops →
    task ≡ record { layout = layout; ops = ops }
task_is layout ops task same_layout same_ops =
    ap (λ (l : Layout). record { layout = l; ops = task.ops }) same_layout
    ∙ ap (λ (os : List Op). record { layout = layout; ops = os }) same_ops

-- a body that ran the operations in order
pub plain_out : (layout : Layout) (ops : List Op) (task : JobTask) (held : ℕ → Option Val) (opened : ℕ → Bool) →
    task.layout ≡ layout → task.ops ≡ ops → store.KeepsOut task held opened → KeepsOutOf layout ops held opened
plain_out layout ops task held opened same_layout same_ops out o foreign =
    subst (λ (t : JobTask). store.KeepsOut t held opened) (task_is layout ops task same_layout same_ops) out o foreign.unnamed

-- a body that ran the first open branch
pub branch_out : (layout : Layout) (ops : List Op) (task : JobTask) (held : ℕ → Option Val) (opened : ℕ → Bool) →
    task.layout ≡ layout → task.ops ≡ ops → KeepsOut task held opened → KeepsOutOf layout ops held opened
branch_out layout ops task held opened same_layout same_ops out =
    subst (λ (t : JobTask). KeepsOut t held opened) (task_is layout ops task same_layout same_ops) out

-- what was committed is what such a run has left
pub inside : (layout : Layout) (ops : List Op) (entry : Entry) → IsLeftBy (KeepsOutOf layout ops) entry → StaysOut layout ops entry
inside layout ops entry was o foreign =
    let none = was.left o foreign in (was.reads o ∙ none.0, was.writes o none.1)
