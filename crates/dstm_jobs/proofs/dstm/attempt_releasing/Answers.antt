use Rattle.std.proofs.Common.{◌∙◌, None, ap, refl, subst}
use Rattle.dstm_store.specs.declared.job.JobTask.{JobTask}
use Rattle.dstm_engine.specs.Endings.{EndsBy}
use Rattle.dstm_engine.specs.declared.error.Ended.{Ended}
use Rattle.dstm_jobs.specs.declared.style.Style.TheVariants.{Loose}
use Rattle.dstm_jobs.specs.Law.{keeps}
use Rattle.dstm_tables.specs.declared.tables.Caller.TheVariants.{Dstm}
use Rattle.dstm_jobs.proofs.Doing.{did_plain}
use Rattle.dstm_engine.proofs.Made.{few_by_opens}
use Rattle.dstm_jobs.proofs.Inside.{KeepsOutOf, plain_out}
use Rattle.dstm_tables.proofs.Made.{did, is_spent_from, one_more, was_kept}
use Rattle.dstm_jobs.proofs.Made.{few_loose}
use Rattle.dstm_jobs.proofs.dstm.attempt_releasing.Goals as goal

pub returns-in-Ok : goal.returns-in-Ok
returns-in-Ok c =
    let k = c.args.caller.now in
    let n = c.attempt_loose.new.caller in
    let body = c.attempt_loose.new.body in
    let task = c.attempt_loose.ensures.task in
    let layout = ap (λ (t : JobTask). t.layout) task ∙ c.make-body.ensures.layout in
    let ops = ap (λ (t : JobTask). t.ops) task ∙ c.make-body.ensures.ops in
    let attempts = c.in-Ok.ensures.attempts in
    let runs = c.in-Ok.ensures.runs in
    did_plain c.args.layout.now c.args.job.now (Dstm k) (Dstm n)
    (record { number = c.in-Ok.done.number; replies = c.replies.result }) c.requires.law
    Loose body layout ops c.replies.ensures (c.requires.can.plain (λ is. cc))
    (did _ (KeepsOutOf c.args.layout.now c.args.job.now.ops) k runs.ran n c.in-Ok.done.number c.in-Ok.done.number c.requires.rest
    (one_more k n None c.requires.rest attempts) (attempts.status refl) c.in-Ok.ensures.settles runs.commits
    (plain_out c.args.layout.now c.args.job.now.ops body.task _ _ layout ops runs.left.1) (few_by_opens c.in-Ok.ensures.sighted))
    (few_loose c.args.job.now k n body.task c.attempt_loose.ensures.table ops c.in-Ok.ensures.few)
    (λ is. absurd (cc))

pub returns-in-Err-Again : goal.returns-in-Err-Again
returns-in-Err-Again c =
    let k = c.args.caller.now in
    let n = c.attempt_loose.new.caller in
    let was = subst (λ (e : Ended). EndsBy keeps k n e) c.in-Err-Again.field-0-is c.in-Err-Again.ensures.ended in
    was_kept k n c.in-Err-Again.field-0-0 c.requires.rest was.0 was.1 was.2

pub returns-in-Err-Spent : goal.returns-in-Err-Spent
returns-in-Err-Spent c =
    is_spent_from c.args.caller.now c.attempt_loose.new.caller c.requires.rest
    (rw c.in-Err-Spent.field-0-is at c.in-Err-Spent.ensures.ended)
