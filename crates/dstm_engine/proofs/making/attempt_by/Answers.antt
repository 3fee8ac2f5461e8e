use Rattle.std.proofs.Common.{◌∙◌, ap, arith, subst, sym, None}
use Rattle.dstm_words.specs.Seats.{Home}
use Rattle.dstm_engine.proofs.Base.{Beginning}
use Rattle.dstm_engine.specs.Attempts.{ReadsAtMost}
use Rattle.dstm_engine.specs.Callers.{Called}
use Rattle.dstm_engine.proofs.Few.{few_reads}
use Rattle.dstm_engine.proofs.LettingGo.{lets_none_go}
use Rattle.dstm_engine.proofs.Looked.{begins_unsighted}
use Rattle.dstm_engine.proofs.Made.{Tried, is_given_up, is_lost, is_made, is_run, is_settled, is_counted, keeps_reads, tried}
use Rattle.dstm_engine.proofs.making.attempt_by.Given.{Over}
use Rattle.dstm_engine.proofs.making.attempt_by.Goals.{After-caller-in-Err-run_by-1, In-Err-commit, In-Ok-commit}
use Rattle.dstm_engine.proofs.making.attempt_by.Goals as goal

pub run_by-requires-clause-begun : goal.run_by-requires-clause-begun
run_by-requires-clause-begun g c =
    begins_unsighted g.L.Law.holds c.args.caller.now c.in-Ok.tx.caller.now c.in-Ok.ensures.begins

pub run_by-requires-clause-few : goal.run_by-requires-clause-few
run_by-requires-clause-few g c =
    let none = begins_unsighted g.L.Law.holds c.args.caller.now c.in-Ok.tx.caller.now c.in-Ok.ensures.begins in
    omega (arith, none)

-- The caller ends as the attempt left it, since this has the reference that it was begun with.

committed : (g : Over) (c : In-Ok-commit g) → Tried g.L.Law.holds c.args.caller.now c.in-Ok.tx.caller.now
    c.run_by.new.tx.caller.now c.commit.new.self.0 c.caller-in-Ok-run_by-1.given.0
committed g c =
    tried g.L.Law.holds c.args.caller.now c.in-Ok.tx.caller.now c.run_by.new.tx.caller.now _ _ _ _ c.in-Ok.ensures.begins
    c.in-Ok-run_by.ensures.leads.place c.commit.new.self.0 _ c.in-Ok.ensures.same (assumption c)

failed : (g : Over) (c : In-Err-commit g) → Tried g.L.Law.holds c.args.caller.now c.in-Ok.tx.caller.now
    c.run_by.new.tx.caller.now c.commit.new.self.0 c.caller-in-Ok-run_by-1.given.0
failed g c =
    tried g.L.Law.holds c.args.caller.now c.in-Ok.tx.caller.now c.run_by.new.tx.caller.now _ _ _ _ c.in-Ok.ensures.begins
    c.in-Ok-run_by.ensures.leads.place c.commit.new.self.0 _ c.in-Ok.ensures.same (assumption c)

given_up : (g : Over) (c : After-caller-in-Err-run_by-1 g) → Tried g.L.Law.holds c.args.caller.now c.in-Ok.tx.caller.now
    c.run_by.new.tx.caller.now c.abandon.new.self.0 c.caller-in-Err-run_by-1.given.0
given_up g c =
    tried g.L.Law.holds c.args.caller.now c.in-Ok.tx.caller.now c.run_by.new.tx.caller.now _ _ _ _ c.in-Ok.ensures.begins
    c.in-Err-run_by.ensures.leads.place c.abandon.new.self.0 _ c.in-Ok.ensures.same (assumption c)

pub returns-in-Ok-commit-clause-attempts : goal.returns-in-Ok-commit-clause-attempts
returns-in-Ok-commit-clause-attempts g c =
    let end = c.in-Ok-commit.ensures in
    is_made (committed g c) None end.kept end.attempt end.ended end.stays.steps.run
    (λ none. (end.number.over, end.number.status))

pub returns-in-Ok-commit-clause-settles : goal.returns-in-Ok-commit-clause-settles
returns-in-Ok-commit-clause-settles g c =
    let end = c.in-Ok-commit.ensures in
    is_settled (committed g c) (g.K.Runs.known.right c.run_by.new.body)
    (ap (λ (k : Called _). k.home) end.kept) end.stays.steps.run end.number c.in-Ok-run_by.ensures.right

pub returns-in-Ok-commit-clause-runs : goal.returns-in-Ok-commit-clause-runs
returns-in-Ok-commit-clause-runs g c =
    let ran = c.in-Ok-run_by.ensures in
    is_run (committed g c) (g.K.Runs.known.right c.run_by.new.body) (g.K.Runs.known.leaves c.run_by.new.body)
    c.in-Ok-commit.ensures.number ran.leads.live ran.right ran.leaves c.in-Ok-commit.ensures.stays.steps

pub returns-in-Ok-commit-clause-few : goal.returns-in-Ok-commit-clause-few
returns-in-Ok-commit-clause-few g c =
    let end = c.in-Ok-commit.ensures in
    let ran = c.in-Ok-run_by.ensures in
    λ reads most keeps. subst (ReadsAtMost most) (sym (committed g c).end) (few_reads
    (ap (λ (k : Called _). k.home) end.kept) end.stays.steps.run end.number ran.leads.live
    (ran.most (ap (λ (h : Home _). h.terms.shape.all_write) c.in-Ok.ensures.begins.steps.same.0 ∙ reads) most keeps))

pub returns-in-Ok-commit-clause-sighted : goal.returns-in-Ok-commit-clause-sighted
returns-in-Ok-commit-clause-sighted g c =
    is_counted (committed g c) (let few = c.in-Ok-run_by.ensures.few in omega (arith, few))
    c.in-Ok-commit.ensures.stays.steps

pub returns-in-Err-commit-clause-ended : goal.returns-in-Err-commit-clause-ended
returns-in-Err-commit-clause-ended g c =
    let end = c.in-Err-commit.ensures in
    is_lost (failed g c) c.in-Err-commit.again end.kept end.attempt end.ended end.leaves.steps end.done
    (let few = c.in-Ok-run_by.ensures.few in omega (arith, few))

pub returns-in-Err-run_by-clause-ended : goal.returns-in-Err-run_by-clause-ended
returns-in-Err-run_by-clause-ended g c =
    let end = c.abandon.ensures in
    is_given_up (given_up g c) c.in-Err-run_by.again c.in-Err-run_by.ensures.leads.ended.1 end.kept end.dead
    end.attempt end.ended end.steps.run end.done (let few = c.in-Err-run_by.ensures.few in omega (arith, few))

pub returns-in-Ok-commit-clause-keeps : goal.returns-in-Ok-commit-clause-keeps
returns-in-Ok-commit-clause-keeps g c =
    keeps_reads (committed g c) g.K.TellsLetGo.told c.in-Ok-run_by.ensures.kept tt c.in-Ok-commit.ensures.stays.steps

pub returns-in-Err-commit-clause-keeps : goal.returns-in-Err-commit-clause-keeps
returns-in-Err-commit-clause-keeps g c =
    keeps_reads (failed g c) g.K.TellsLetGo.told c.in-Ok-run_by.ensures.kept tt c.in-Err-commit.ensures.leaves.steps

pub returns-in-Err-run_by-clause-keeps : goal.returns-in-Err-run_by-clause-keeps
returns-in-Err-run_by-clause-keeps g c =
    keeps_reads (given_up g c) g.K.TellsLetGo.told c.in-Err-run_by.ensures.kept tt c.abandon.ensures.steps

pub returns-in-Err-clause-keeps : goal.returns-in-Err-clause-keeps
returns-in-Err-clause-keeps g c =
    let spent = rw c.in-Err.is at c.begin.follows.holds-at-none in
    ap g.K.TellsLetGo.told (lets_none_go g.L.Law.holds c.args.caller.now c.begin.follows.lender-at-none
    (Beginning c.args.caller.now.fresh) None tt spent.steps)
