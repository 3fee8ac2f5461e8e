-- The operations of a job that are done so far.
use Rattle.std.proofs.Common.{ℕ, ◌+◌, ◌<◌, ◌≤◌, List, [], ◌∷◌, ◌++◌, length, take, get_or, sym, ◌∙◌, ap, subst}
use Rattle.std.proofs.lemmas.List.{take_more, take_all}
use Rattle.dstm_model.specs.declared.value.Val.{Val}
use Rattle.dstm_model.specs.declared.op.Op.{Op}
use Rattle.dstm_model.specs.declared.reply.Reply.{Reply}
use Rattle.dstm_model.specs.Objects.{Does}
use Rattle.dstm_model.specs.Job.{JobOutcome, apply_all}
use Rattle.dstm_model.proofs.Applying.{apply_all-push}
use Rattle.dstm_store.specs.declared.job.JobTask.{JobTask}
use Rattle.dstm_store.specs.Whole.{StandsFor}
use Rattle.dstm_store.specs.Job.{DoesAll}

-- the first i operations of a task
abbrev pub up_to : ℕ → JobTask → JobTask
up_to i task = record { layout = task.layout; ops = take i task.ops }

-- one operation more
pub does-more : (task : JobTask) (i : ℕ) (d : Op) (start before after : List Val) (replies : List Reply)
    (reply : Reply) →
    i < length task.ops → DoesAll (up_to i task) start before replies →
    Does (StandsFor task.layout) (get_or task.ops i d) before after reply →
    DoesAll (up_to (i + 1) task) start after (replies ++ reply ∷ [])
does-more task i d start before after replies reply below so_far does store stands =
    let one = get_or task.ops i d in
    let old = so_far store stands in
    let reached = (apply_all (take i task.ops) store).store in
    let new = does reached old.1 in
    let all = ap (λ ops. apply_all ops store) (take_more task.ops i d below)
    ∙ apply_all-push (take i task.ops) one store in (
      ap (λ (rs : List Reply). rs ++ reply ∷ []) old.0
          ∙ ap (λ (r : Reply). (apply_all (take i task.ops) store).replies ++ r ∷ []) new.0
          ∙ sym (ap (λ (o : JobOutcome). o.replies) all),
      subst (λ (o : JobOutcome). StandsFor task.layout after o.store) (sym all) new.1,
    )

pub does-all : (task : JobTask) (i : ℕ) (start after : List Val) (replies : List Reply) → length task.ops ≤ i →
    DoesAll (up_to i task) start after replies → DoesAll task start after replies
does-all task i start after replies whole done store stands =
    let d = done store stands in
    let all = take_all i task.ops whole in (
      d.0 ∙ ap (λ ops. (apply_all ops store).replies) all,
      subst (λ ops. StandsFor task.layout after (apply_all ops store).store) all d.1,
    )
