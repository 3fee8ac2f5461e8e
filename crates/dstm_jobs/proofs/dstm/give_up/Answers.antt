use Rattle.std.proofs.Common.{None, arith, refl, subst, sym}
use Rattle.dstm_order.specs.Tasks.Task.{Beginning}
use Rattle.dstm_engine.proofs.LettingGo.{lets_none_go}
use Rattle.dstm_engine.proofs.Looked.{begins_few, commit_few, few_since}
use Rattle.dstm_engine.proofs.Made.{Tried, keeps_reads, tried}
use Rattle.dstm_engine.specs.Callers.{Called}
use Rattle.dstm_tables.specs.declared.tables.Caller.TheVariants.{Dstm}
use Rattle.dstm_jobs.specs.OnlyCallers.{HasGivenUp}
use Rattle.dstm_jobs.specs.Law.{keeps}
use Rattle.dstm_jobs.proofs.Sole.{gave_up, stays_lawful}
use Rattle.dstm_jobs.proofs.Branched.{one_committed}
use Rattle.dstm_tables.proofs.Made.{is_spent_from}
use Rattle.dstm_jobs.proofs.dstm.give_up.Goals.{After-caller-2-1}
use Rattle.dstm_jobs.proofs.dstm.give_up.Goals as goal

pub returns-in-Err-clause-spent : goal.returns-in-Err-clause-spent
returns-in-Err-clause-spent c =
    is_spent_from c.args.caller.now _ c.requires.rest (rw c.in-Err.is at c.begin.follows.holds-at-none)

pub commit-requires-clause-lawful : goal.commit-requires-clause-lawful
commit-requires-clause-lawful c map admits =
    stays_lawful c.in-Ok.tx.caller.now map c.in-Ok.ensures.begins.unwritten admits.lawful

-- The caller ends as the attempt left it, since this has the reference that it was begun with.
ended : (c : After-caller-2-1) → Tried keeps c.args.caller.now c.in-Ok.tx.caller.now c.in-Ok.tx.caller.now
    c.commit.new.self.0 c.caller-2-1.given.0
ended c =
    let r = c.in-Ok.tx.caller.ghost_name in
    let h = c.in-Ok.tx.stm.now in
    tried keeps c.args.caller.now c.in-Ok.tx.caller.now c.in-Ok.tx.caller.now r r h h c.in-Ok.ensures.begins refl
    c.commit.new.self.0 _ c.in-Ok.ensures.same (assumption c)

pub returns-clause-given_up : goal.returns-clause-given_up
returns-clause-given_up c =
    let end = c.in-Ok-commit.ensures in
    let a = ended (goal.at.returns-clause-given_up c).After-caller-2-1 in
    subst (λ (x : Called _). HasGivenUp (Dstm c.args.caller.now) (Dstm x) c.in-Ok-commit.number) (sym a.end)
    (gave_up c.args.caller.now c.in-Ok.tx.caller.now c.commit.new.self.0 c.in-Ok-commit.number c.in-Ok.ensures.begins
    (one_committed a c.requires.rest end.kept end.attempt end.stays.steps.run end.ended.told c.in-Ok-commit.number
    end.number) end.number
    (let few = few_since c.in-Ok.tx.caller.now c.commit.new.self.0
    (begins_few keeps c.args.caller.now c.in-Ok.tx.caller.now c.in-Ok.ensures.begins) (commit_few end.attempt end.stays.steps) in
    omega (arith, few)))

pub returns-in-Err-clause-keeps : goal.returns-in-Err-clause-keeps
returns-in-Err-clause-keeps c =
    let spent = rw c.in-Err.is at c.begin.follows.holds-at-none in
    lets_none_go keeps c.args.caller.now c.begin.follows.lender-at-none (Beginning c.args.caller.now.fresh) None tt spent.steps

pub returns-clause-keeps : goal.returns-clause-keeps
returns-clause-keeps c =
    keeps_reads (ended (goal.at.returns-clause-keeps c).After-caller-2-1) (λ n. n) refl tt c.in-Ok-commit.ensures.stays.steps
