use Rattle.std.proofs.Common.{◌∙◌, ap}
use Rattle.dstm_store.specs.declared.job.JobTask.{JobTask}
use Rattle.dstm_jobs.specs.declared.style.Style.TheVariants.{Plain}
use Rattle.dstm_jobs.proofs.Doing.{did_plain, left_less}
use Rattle.dstm_jobs.proofs.Inside.{plain_out}
use Rattle.dstm_jobs.proofs.trying.attempt_plain.Goals as goal

pub returns-in-Ok-clause-tried : goal.returns-in-Ok-clause-tried
returns-in-Ok-clause-tried c =
    let body = c.attempt.new.body in
    let layout = c.args.layout.now in
    let ops = c.args.job.now.ops in
    let task = c.attempt.ensures.task in
    let same_layout = ap (λ (t : JobTask). t.layout) task ∙ c.make-body.ensures.layout in
    let same_ops = ap (λ (t : JobTask). t.ops) task ∙ c.make-body.ensures.ops in
    did_plain layout c.args.job.now c.args.caller.now c.attempt.new.caller
    (record { number = c.in-Ok.number; replies = c.into_replies.result }) c.requires.law
    Plain body same_layout same_ops c.into_replies.ensures (c.requires.can.plain (λ is. cc))
    (left_less (λ held opened left. plain_out layout ops body.task held opened same_layout same_ops left.1) c.in-Ok.ensures.done)
    (λ loose. absurd (cc)) (λ is. absurd (cc))

pub returns-in-Err-Again-clause-tried : goal.returns-in-Err-Again-clause-tried
returns-in-Err-Again-clause-tried c = rw c.in-Err-Again.field-0-is at c.in-Err-Again.ensures.ended

pub returns-in-Err-Spent-clause-tried : goal.returns-in-Err-Spent-clause-tried
returns-in-Err-Spent-clause-tried c = rw c.in-Err-Spent.field-0-is at c.in-Err-Spent.ensures.ended
