use Rattle.std.proofs.Common.{◌∙◌, ◌||◌, ◌&&◌, Bool, if◌then◌else◌, arith, refl, ap, subst, sym, List, ℕ, false, ◌≡◌, ◌≢◌, is_some, None, Some, Option, IfSome}
use Rattle.dstm_model.specs.declared.layout.Layout.{Layout}
use Rattle.dstm_model.specs.Objects.{objects_of}
use Rattle.dstm_mem.specs.Memory.{with_set}
use Rattle.dstm_order.specs.declared.again.Again.{Again}
use Rattle.dstm_words.specs.Seats.{Home}
use Rattle.dstm_engine.proofs.Made.{Tried, home, keeps_reads, same_done, tried}
use Rattle.dstm_engine.proofs.Abandoning.{under_way}
use Rattle.dstm_model.specs.declared.value.Val.{Val}
use Rattle.dstm_engine.specs.Attempts.{Admits}
use Rattle.dstm_engine.specs.Callers.{Called, held, is_opened, shape_of, written}
use Rattle.dstm_engine.specs.Makes.{let_go}
use Rattle.dstm_progress.specs.Lives.{TriesByShape}
use Rattle.dstm_engine.specs.Outcomes.{IsLeft, Promises}
use Rattle.dstm_engine.specs.Transactions.{TxPlace}
use Rattle.dstm_compose.specs.Compose.{IsRight, KeepsOut}
use Rattle.dstm_compose.specs.declared.body.Outcome.{Outcome}
use Rattle.dstm_compose.specs.declared.body.Outcome.TheVariants.{Blocked, Ran}
use Rattle.dstm_store.specs.declared.job.JobTask.{JobTask}
use Rattle.dstm_store.specs.Whole.{IsLawful}
use Rattle.dstm_jobs.specs.Law.{keeps}
use Rattle.dstm_order.specs.Tasks.Task.{Beginning, Leaving}
use Rattle.dstm_engine.proofs.AddingUp.{makes_both, makes_one}
use Rattle.dstm_tables.proofs.Made.{is_spent_from, run_there}
use Rattle.dstm_jobs.proofs.Inside.{KeepsOutOf, branch_out}
use Rattle.dstm_jobs.proofs.Made.{objects_are}
use Rattle.dstm_jobs.proofs.Branched.{aborted_fresh, aborts, calls_by, did_commit, one_more_by, rests, right_for, stood_at, unopened_by, was_dead, was_left}
use Rattle.dstm_engine.proofs.LettingGo.{lets_none_go}
use Rattle.dstm_engine.proofs.Looked.{begins_few}
use Rattle.dstm_jobs.proofs.dstm.attempt_branches.Goals.{After-caller-in-Blocked-1, After-caller-in-Err-run-1, After-caller-in-Ran-1, In-Ok-run}
use Rattle.dstm_jobs.proofs.dstm.attempt_branches.Goals as goal

-- The caller ends as the attempt left it, since this has the reference that it was begun with.

ran : (c : After-caller-in-Ran-1) → Tried keeps c.args.caller.now c.in-Ok.tx.caller.now c.run.new.tx.caller.now
    c.commit.new.self.0 c.caller-in-Ran-1.given.0
ran c =
    tried keeps c.args.caller.now c.in-Ok.tx.caller.now c.run.new.tx.caller.now _ _ _ _ c.in-Ok.ensures.begins
    c.in-Ok-run.ensures.leads.place c.commit.new.self.0 _ c.in-Ok.ensures.same (assumption c)

stood : (c : After-caller-in-Blocked-1) → Tried keeps c.args.caller.now c.in-Ok.tx.caller.now
    c.recheck_often-rechecked.new.tx.caller.now c.abandon.new.self.0 c.caller-in-Blocked-1.given.0
stood c =
    tried keeps c.args.caller.now c.in-Ok.tx.caller.now c.recheck_often-rechecked.new.tx.caller.now _ _ _ _
    c.in-Ok.ensures.begins (c.recheck_often-rechecked.ensures.place ∙ c.in-Ok-run.ensures.leads.place)
    c.abandon.new.self.0 _ c.in-Ok.ensures.same (assumption c)

dropped : (c : After-caller-in-Err-run-1) → Tried keeps c.args.caller.now c.in-Ok.tx.caller.now
    c.run.new.tx.caller.now c.abandon-in-Err-run.new.self.0 c.caller-in-Err-run-1.given.0
dropped c =
    tried keeps c.args.caller.now c.in-Ok.tx.caller.now c.run.new.tx.caller.now _ _ _ _ c.in-Ok.ensures.begins
    c.in-Err-run.ensures.leads.place c.abandon-in-Err-run.new.self.0 _ c.in-Ok.ensures.same (assumption c)

-- what the body's outcome is right for
right : (c : In-Ok-run) (is : Outcome) → c.run.new.body.outcome ≡ is → (map : List Val) →
    Admits keeps c.run.new.tx.caller.now map →
    IsRight (record { layout = c.args.layout.now; ops = c.args.job.now.ops }) map
    (with_set map (written c.run.new.tx.caller.now)) is
right c is same map admits =
    right_for c.args.layout.now c.args.job.now.ops c.run.new.body.task c.run.new.body.outcome is map _
    (ap (λ (j : JobTask). j.layout) c.in-Ok-run.ensures.task ∙ c.make-body.ensures.layout)
    (ap (λ (j : JobTask). j.ops) c.in-Ok-run.ensures.task ∙ c.make-body.ensures.ops) same
    (c.in-Ok-run.ensures.right map admits)

-- what is foreign to the job was neither held nor opened
outside : (c : In-Ok-run) → KeepsOutOf c.args.layout.now c.args.job.now.ops (held c.run.new.tx.caller.now)
    (is_opened c.run.new.tx.caller.now)
outside c =
    let t = c.run.new.tx.caller.now in
    branch_out c.args.layout.now c.args.job.now.ops c.run.new.body.task (held t) (is_opened t)
    (ap (λ (j : JobTask). j.layout) c.in-Ok-run.ensures.task ∙ c.make-body.ensures.layout)
    (ap (λ (j : JobTask). j.ops) c.in-Ok-run.ensures.task ∙ c.make-body.ensures.ops)
    (subst (λ (b : Bool). KeepsOut c.run.new.body.task (λ o. if b then held t o else None) (λ o. b && is_opened t o))
    c.in-Ok-run.ensures.leads.live c.in-Ok-run.ensures.outside)

pub returns-in-Err-clause-tried : goal.returns-in-Err-clause-tried
returns-in-Err-clause-tried c =
    is_spent_from c.args.caller.now _ c.requires.rest (rw c.in-Err.is at c.begin.follows.holds-at-none)

pub run-requires-clause-few : goal.run-requires-clause-few
run-requires-clause-few c = begins_few keeps c.args.caller.now c.in-Ok.tx.caller.now c.in-Ok.ensures.begins

pub commit-requires-clause-lawful : goal.commit-requires-clause-lawful
commit-requires-clause-lawful c map admits =
    let begins = c.in-Ok.ensures.begins in
    let place = c.in-Ok-run.ensures.leads.place in
    let there = home keeps c.args.caller.now c.in-Ok.tx.caller.now c.run.new.tx.caller.now _ _ _ _ begins place in
    subst (λ (l : Layout). IsLawful l (with_set map (written c.run.new.tx.caller.now)))
    (ap (λ (t : JobTask). t.layout) c.in-Ok-run.ensures.task ∙ c.make-body.ensures.layout ∙ sym c.requires.law
    ∙ ap (λ (h : Home _). h.terms.law.value.layout) (sym there)) (c.in-Ok-run.ensures.lawful map admits)

pub returns-in-Ok-commit-clause-tried : goal.returns-in-Ok-commit-clause-tried
returns-in-Ok-commit-clause-tried c =
    let at = goal.at.returns-in-Ok-commit-clause-tried c in
    let end = c.in-Ok-commit.ensures in
    did_commit (ran at.After-caller-in-Ran-1) c.requires.rest c.args.layout.now c.args.job.now
    (record { number = c.in-Ok-commit.number; replies = c.in-Ran.replies }) c.requires.law end.kept end.attempt
    end.stays.steps.run end.ended.told end.number
    (right at.In-Ok-run (Ran c.in-Ran.replies) (sym c.outcome.ensures ∙ c.in-Ran.is)) (outside at.In-Ok-run)
    (record { ran = c.run.new.tx.caller.now; few = c.in-Ok-run.ensures.few; commit = end.stays.steps })

pub returns-in-Err-commit-clause-tried : goal.returns-in-Err-commit-clause-tried
returns-in-Err-commit-clause-tried c =
    let end = c.in-Err-commit.ensures in
    was_left (ran (goal.at.returns-in-Err-commit-clause-tried c).After-caller-in-Ran-1) c.requires.rest c.args.rechecks
    c.in-Err-commit.field-0 end.kept end.attempt end.leaves.steps end.ended.told end.leaves.left end.done
    c.in-Ok-run.ensures.few

pub returns-in-Ok-rechecked-clause-tried : goal.returns-in-Ok-rechecked-clause-tried
returns-in-Ok-rechecked-clause-tried c =
    let k = c.args.caller.now in
    let b = c.in-Ok.tx.caller.now in
    let t = c.run.new.tx.caller.now in
    let u = c.recheck_often-rechecked.new.tx.caller.now in
    let n = c.abandon.new.self.0 in
    let ran = c.in-Ok-run.ensures in
    let rechecked = c.in-Ok-rechecked.ensures in
    let left = c.abandon.ensures in
    let begins = c.in-Ok.ensures.begins in
    let place = rechecked.place ∙ ran.leads.place in
    let at = goal.at.returns-in-Ok-rechecked-clause-tried c in
    let nh : n.home ≡ u.home = left.steps.same.0 in
    let was = stood at.After-caller-in-Blocked-1 in
    let one = one_more_by was n nh left.steps.same.1 left.attempt
    (run_there u n nh left.steps.run) (rests u n left.steps)
    (makes_both (TriesByShape (shape_of k)) k u n (calls_by was c.requires.rest u refl refl refl refl
    (left.ended (ap (λ x. x || is_some u.left) rechecked.stands.live)).told)
    (makes_one (TriesByShape (shape_of k)) keeps Leaving u n None (record { again = tt; opens = λ all. tt }) left.steps))
    (λ some. aborted_fresh was n (ap (λ (x : Called _). x.fresh) left.kept) (run_there u n nh left.steps.run)
    (aborts u n left.steps (rechecked.stands.newest c.requires.some).run rechecked.stands.live some) some) in
    let there : t.home ≡ k.home = home keeps k b t _ _ _ _ begins ran.leads.place in
    let law = ap (λ (h : Home _). h.terms.law.value.layout) there ∙ c.requires.law in
    let size = ap (λ (h : Home _). h.terms.shape.objects) there ∙ objects_are k c.requires.rest
    ∙ ap objects_of c.requires.law in
    let blocked : c.run.new.body.outcome ≡ Blocked = sym c.outcome.ensures ∙ c.in-Blocked.is in
    let began : b.home ≡ k.home = begins.steps.same.0 in
    let unopened : (shape_of k).all_write ≡ false → (o : ℕ) → is_opened u o ≡ false = λ reads o. rechecked.opened o
    ∙ unopened_by b t o ran.leads.live
    ((ran.looks blocked).opens (ap (λ (h : Home _). h.terms.shape.all_write) began ∙ reads) o) (begins.unopened o) in
    rw was.end (stood_at c.args.rechecks c.args.layout.now c.args.job.now k b t u n c.requires.some ran.few one
    (left.done ∙ same_done keeps k b u _ _ _ _ begins place) law size rechecked.stands left.steps begins
    (ap (λ (p : TxPlace _). p.home) place) (ap (λ (p : TxPlace _). p.number) place) (ap (λ (p : TxPlace _). p.began) place)
    unopened (right at.In-Ok-run Blocked blocked) (outside at.In-Ok-run))

pub returns-in-Err-rechecked-clause-tried : goal.returns-in-Err-rechecked-clause-tried
returns-in-Err-rechecked-clause-tried c =
    let u = c.recheck_often-rechecked.new.tx.caller.now in
    let rechecked = c.in-Err-rechecked.ensures in
    let left : u.left ≢ None = λ none. let some = rechecked.dead in cc in
    was_dead (stood (goal.at.returns-in-Err-rechecked-clause-tried c).After-caller-in-Blocked-1) c.requires.rest
    c.args.rechecks _
    (c.abandon.ensures.ended (under_way u _ rechecked.dead)).told (c.abandon.ensures.dead left) rechecked.left
    c.abandon.ensures.steps.run
    (let few = c.in-Ok-run.ensures.few in let more = rechecked.few.sights in let looked = rechecked.few.looks in omega arith)

pub returns-in-Err-run-clause-tried : goal.returns-in-Err-run-clause-tried
returns-in-Err-run-clause-tried c =
    let t = c.run.new.tx.caller.now in
    let again : t.left ≡ Some c.in-Err-run.field-0 = c.in-Err-run.ensures.leads.ended.1 in
    let left : t.left ≢ None = λ none. let some = again in cc in
    let ended = c.abandon-in-Err-run.ensures.ended (under_way t _ again) in
    was_dead (dropped (goal.at.returns-in-Err-run-clause-tried c).After-caller-in-Err-run-1) c.requires.rest
    c.args.rechecks _ ended.told
    (c.abandon-in-Err-run.ensures.dead left)
    (subst (λ (o : Option Again). IfSome o (λ (x : Again). IsLeft t x × Promises t x)) again ended.left).0
    c.abandon-in-Err-run.ensures.steps.run (let few = c.in-Err-run.ensures.few in omega arith)

-- ---- no read is let go

pub returns-in-Err-clause-keeps : goal.returns-in-Err-clause-keeps
returns-in-Err-clause-keeps c =
    let spent = rw c.in-Err.is at c.begin.follows.holds-at-none in
    lets_none_go keeps c.args.caller.now c.begin.follows.lender-at-none (Beginning c.args.caller.now.fresh) None tt spent.steps

pub returns-in-Ok-commit-clause-keeps : goal.returns-in-Ok-commit-clause-keeps
returns-in-Ok-commit-clause-keeps c =
    keeps_reads (ran (goal.at.returns-in-Ok-commit-clause-keeps c).After-caller-in-Ran-1) (λ n. n) c.in-Ok-run.ensures.kept tt
    c.in-Ok-commit.ensures.stays.steps

pub returns-in-Err-commit-clause-keeps : goal.returns-in-Err-commit-clause-keeps
returns-in-Err-commit-clause-keeps c =
    keeps_reads (ran (goal.at.returns-in-Err-commit-clause-keeps c).After-caller-in-Ran-1) (λ n. n) c.in-Ok-run.ensures.kept tt
    c.in-Err-commit.ensures.leaves.steps

stood_keeping : (c : After-caller-in-Blocked-1) → let_go c.caller-in-Blocked-1.given.0 ≡ let_go c.args.caller.now
stood_keeping c =
    keeps_reads (stood c) (λ n. n) (c.recheck_often-rechecked.ensures.kept ∙ c.in-Ok-run.ensures.kept) tt c.abandon.ensures.steps

pub returns-in-Ok-rechecked-clause-keeps : goal.returns-in-Ok-rechecked-clause-keeps
returns-in-Ok-rechecked-clause-keeps c =
    stood_keeping (goal.at.returns-in-Ok-rechecked-clause-keeps c).After-caller-in-Blocked-1

pub returns-in-Err-rechecked-clause-keeps : goal.returns-in-Err-rechecked-clause-keeps
returns-in-Err-rechecked-clause-keeps c =
    stood_keeping (goal.at.returns-in-Err-rechecked-clause-keeps c).After-caller-in-Blocked-1

pub returns-in-Err-run-clause-keeps : goal.returns-in-Err-run-clause-keeps
returns-in-Err-run-clause-keeps c =
    keeps_reads (dropped (goal.at.returns-in-Err-run-clause-keeps c).After-caller-in-Err-run-1) (λ n. n)
    c.in-Err-run.ensures.kept tt c.abandon-in-Err-run.ensures.steps
