use Rattle.std.proofs.Common.{◌∙◌, Some, ap, refl, subst, sym, IfSome}
use Rattle.std.proofs.lemmas.Bool.{and_parts}
use Rattle.dstm_mem.proofs.InTheEnd.{in_the_end}
use Rattle.dstm_store.specs.declared.job.JobTask.{JobTask}
use Rattle.dstm_tl2_engine.proofs.Made.{made, same_done, same_name, settled, still}
use Rattle.dstm_tl2_engine.proofs.Resting.{rests}
use Rattle.dstm_tl2_engine.proofs.Told.{rest_made}
use Rattle.dstm_tl2_engine.specs.Callers.{TlCalled}
use Rattle.dstm_tl2_engine.specs.Outcomes.{IsLeft}
use Rattle.dstm_jobs.specs.declared.style.Style.TheVariants.{Branches}
use Rattle.dstm_jobs.proofs.Branched.{right_for}
use Rattle.dstm_tables.specs.declared.tables.Caller.TheVariants.{Tl2}
use Rattle.dstm_jobs.specs.Jobs.{DidJob, StoodAt}
use Rattle.dstm_jobs.specs.Law.{keeps}
use Rattle.dstm_jobs.specs.Tables.{WasKept}
use Rattle.dstm_tables.proofs.ByTl2.{tl2_did, tl2_kept, tl2_spent}
use Rattle.dstm_jobs.proofs.Doing.{did_branch}
use Rattle.dstm_jobs.proofs.Inside.{KeepsOutOf, branch_out}
use Rattle.dstm_jobs.proofs.JobsByTl2.{stood_at}
use Rattle.dstm_jobs.proofs.tl2.attempt_branches.Goals as goal

pub returns-in-Err : goal.returns-in-Err
returns-in-Err c = λ rechecks.
    tl2_spent c.args.caller.now _ c.requires.rest (rw c.in-Err.is at c.begin.follows.holds-at-none)

pub commit-requires-clause-rest : goal.commit-requires-clause-rest
commit-requires-clause-rest c = rests _ (and_parts _ _ c.in-Ok-run.ensures.leads.live).1

-- The caller ends as the attempt left it, since this has the reference that it was begun with.

pub returns-in-Ok-commit : goal.returns-in-Ok-commit
returns-in-Ok-commit c = λ rechecks.
    let k = c.args.caller.now in
    let b = c.in-Ok.tx.caller.now in
    let t = c.run.new.mem.caller.now in
    let n = c.commit.new.self.0 in
    let ran = c.in-Ok-run.ensures in
    let commit = c.in-Ok-commit.ensures in
    let begins = c.in-Ok.ensures.begins in
    let place = ran.leads.place in
    let name = same_name keeps k b t _ _ _ _ begins place _ c.in-Ok.ensures.same in
    in_the_end (λ (x : TlCalled _). DidJob Branches c.args.layout.now c.args.job.now (Tl2 k) (Tl2 x)
    (record { number = c.in-Ok-commit.number; replies = c.in-Ran.replies })) _ _ _ _ (assumption c) name
    (did_branch c.args.layout.now c.args.job.now (Tl2 k) (Tl2 n)
    (record { number = c.in-Ok-commit.number; replies = c.in-Ran.replies }) c.requires.law
    (tl2_did _ (KeepsOutOf c.args.layout.now c.args.job.now.ops) k t n c.in-Ok-commit.number c.in-Ok-commit.number c.requires.rest
    (made keeps k b t _ _ _ _ begins place n _ commit.kept commit.stays.attempt commit.number.free
    (λ _. commit.number.valid) commit.seen commit.stays.steps.run commit.told)
    (settled keeps k b t _ _ _ _ begins place _ n c.in-Ok-commit.number _ commit.kept commit.stays.steps.run commit.number
    (λ map admits. right_for c.args.layout.now c.args.job.now.ops c.run.new.self.task c.run.new.self.outcome _ map _
    (ap (λ (j : JobTask). j.layout) ran.task ∙ c.make-body.ensures.layout)
    (ap (λ (j : JobTask). j.ops) ran.task ∙ c.make-body.ensures.ops) (sym c.outcome.ensures ∙ c.in-Ran.is)
    (ran.right map admits))) commit.number
    (branch_out c.args.layout.now c.args.job.now.ops c.run.new.self.task _ _
    (ap (λ (j : JobTask). j.layout) ran.task ∙ c.make-body.ensures.layout)
    (ap (λ (j : JobTask). j.ops) ran.task ∙ c.make-body.ensures.ops) ran.leaves.1)) tt)

pub returns-in-Err-commit : goal.returns-in-Err-commit
returns-in-Err-commit c = λ rechecks.
    let k = c.args.caller.now in
    let b = c.in-Ok.tx.caller.now in
    let t = c.run.new.mem.caller.now in
    let n = c.commit.new.self.0 in
    let commit = c.in-Err-commit.ensures in
    let begins = c.in-Ok.ensures.begins in
    let place = c.in-Ok-run.ensures.leads.place in
    let name = same_name keeps k b t _ _ _ _ begins place _ c.in-Ok.ensures.same in
    in_the_end (λ (x : TlCalled _). WasKept rechecks (Tl2 k) (Tl2 x)) _ _ _ _ (assumption c) name
    (tl2_kept rechecks k n c.in-Err-commit.field-0 c.requires.rest
    (made keeps k b t _ _ _ _ begins place n (Some c.in-Err-commit.field-0) commit.kept commit.leaves.attempt
    commit.leaves.left.given_back.free (λ none. absurd (cc)) commit.seen commit.leaves.steps.run commit.told)
    commit.leaves.left (commit.leaves.done ∙ same_done keeps k b t _ _ _ _ begins place))

pub returns-in-Blocked : goal.returns-in-Blocked
returns-in-Blocked c = λ rechecks.
    let k = c.args.caller.now in
    let b = c.in-Ok.tx.caller.now in
    let t = c.run.new.mem.caller.now in
    let ran = c.in-Ok-run.ensures in
    let begins = c.in-Ok.ensures.begins in
    let place = ran.leads.place in
    let name = same_name keeps k b t _ _ _ _ begins place _ c.in-Ok.ensures.same in
    let P = λ (x : TlCalled _). StoodAt Branches rechecks c.args.layout.now c.args.job.now (Tl2 k) (Tl2 x) in
    in_the_end P _ _ _ _ (assumption c) name (subst P (sym c.abandon.ensures.same)
    (stood_at k b t _ _ _ _ begins place c.requires.rest (rests _ (and_parts _ _ ran.leads.live).1) c.abandon.ensures.run
    (c.abandon.ensures.told (rest_made t (rests _ (and_parts _ _ ran.leads.live).1)))
    rechecks c.args.layout.now c.args.job.now c.requires.law (λ map admits.
    right_for c.args.layout.now c.args.job.now.ops c.run.new.self.task c.run.new.self.outcome _ map _
    (ap (λ (j : JobTask). j.layout) ran.task ∙ c.make-body.ensures.layout)
    (ap (λ (j : JobTask). j.ops) ran.task ∙ c.make-body.ensures.ops) (sym c.outcome.ensures ∙ c.in-Blocked.is)
    (ran.right map admits))
    (branch_out c.args.layout.now c.args.job.now.ops c.run.new.self.task _ _
    (ap (λ (j : JobTask). j.layout) ran.task ∙ c.make-body.ensures.layout)
    (ap (λ (j : JobTask). j.ops) ran.task ∙ c.make-body.ensures.ops) ran.leaves.1)))

pub returns-in-Err-run : goal.returns-in-Err-run
returns-in-Err-run c = λ rechecks.
    let k = c.args.caller.now in
    let b = c.in-Ok.tx.caller.now in
    let t = c.run.new.mem.caller.now in
    let begins = c.in-Ok.ensures.begins in
    let leads = c.in-Err-run.ensures.leads in
    let place = leads.place in
    let over = leads.ended.1 in
    let was = c.abandon-in-Err-run.ensures in
    let left : IsLeft t = subst (λ l. IfSome l (λ _. IsLeft t)) over was.left in
    let name = same_name keeps k b t _ _ _ _ begins place _ c.in-Ok.ensures.same in
    let P = λ (x : TlCalled _). WasKept rechecks (Tl2 k) (Tl2 x) in
    in_the_end P _ _ _ _ (assumption c) name (subst P (sym was.same) (tl2_kept rechecks k t c.in-Err-run.field-0 c.requires.rest
    (made keeps k b t _ _ _ _ begins place t (Some c.in-Err-run.field-0) (still t _ over) refl left.given_back.free
    (λ none. absurd (cc)) was.seen was.run was.told) left (same_done keeps k b t _ _ _ _ begins place)))
