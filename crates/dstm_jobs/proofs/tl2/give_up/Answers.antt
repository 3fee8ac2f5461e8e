use Rattle.std.proofs.Common.{refl}
use Rattle.dstm_mem.proofs.InTheEnd.{in_the_end}
use Rattle.dstm_tl2_engine.proofs.Made.{made, same_name}
use Rattle.dstm_tl2_engine.specs.Callers.{TlCalled}
use Rattle.dstm_tables.specs.declared.tables.Caller.TheVariants.{Tl2}
use Rattle.dstm_jobs.specs.OnlyCallers.{HasGivenUp}
use Rattle.dstm_jobs.specs.Law.{keeps}
use Rattle.dstm_tables.proofs.ByTl2.{tl2_more, tl2_spent}
use Rattle.dstm_jobs.proofs.OnlyTries.{gave_up, stays_lawful}
use Rattle.dstm_jobs.proofs.tl2.give_up.Goals as goal

pub returns-in-Err-clause-spent : goal.returns-in-Err-clause-spent
returns-in-Err-clause-spent c =
    tl2_spent c.args.caller.now _ c.requires.rest (rw c.in-Err.is at c.begin.follows.holds-at-none)

pub commit-requires-clause-lawful : goal.commit-requires-clause-lawful
commit-requires-clause-lawful c map admits =
    stays_lawful c.args.caller.now c.in-Ok.tx.caller.now map c.in-Ok.ensures.begins admits.lawful

-- The caller ends as the attempt left it, since this has the reference that it was begun with.
pub returns-clause-given_up : goal.returns-clause-given_up
returns-clause-given_up c =
    let k = c.args.caller.now in
    let b = c.in-Ok.tx.caller.now in
    let n = c.commit.new.self.0 in
    let commit = c.in-Ok-commit.ensures in
    let begins = c.in-Ok.ensures.begins in
    let r = c.in-Ok.tx.caller.ghost_name in
    let h = c.in-Ok.tx.stm.now in
    let name = same_name keeps k b b r r h h begins refl _ c.in-Ok.ensures.same in
    in_the_end (λ (x : TlCalled _). HasGivenUp (Tl2 k) (Tl2 x) c.in-Ok-commit.number) _ _ _ _ (assumption c) name
    (gave_up k b n c.in-Ok-commit.number begins (tl2_more k n _ c.requires.rest
    (made keeps k b b r r h h begins refl n _ commit.kept commit.stays.attempt commit.number.free
    (λ _. commit.number.valid) commit.seen commit.stays.steps.run commit.told)) commit.number)
