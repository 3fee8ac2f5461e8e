use Rattle.std.proofs.lemmas.Result.{IfErr-weaker, IfOk-weaker, err_from_is_err_and, on_ok_weaker}
use Rattle.dstm_tl2_order.specs.Tasks.Work.{Committing, Finishing}
use Rattle.dstm_tl2_engine.proofs.Both.{commit_commits, commit_leaves, commit_lost, commit_stays}
use Rattle.dstm_tl2_engine.specs.Attempts.{Commits}
use Rattle.dstm_tl2_engine.specs.Transactions.{Leaves}
use Rattle.dstm_tl2_engine.proofs.caller.TlCaller.commit.Goals as goal

pub returns-in_err-lock-clause-leaves : goal.returns-in_err-lock-clause-leaves
returns-in_err-lock-clause-leaves g c =
    let p = err_from_is_err_and c.from_residual.result c.from_residual.ensures.1 in
    rw (p.1, p.2) (commit_lost c.requires.rest.sound.0 c.in_err-lock.ensures.leaves)

pub returns-clause-stays : goal.returns-clause-stays
returns-clause-stays g c =
    on_ok_weaker c.finish.result (commit_stays c.in_ok-lock.ensures.kept c.in_ok-lock.ensures.stays
    c.in_ok-lock.ensures.locked c.in_ok-lock.ensures.done) c.finish.ensures.stays

pub returns-clause-leaves : goal.returns-clause-leaves
returns-clause-leaves g c =
    IfErr-weaker c.finish.result
    (Leaves g.L.Law.holds (Finishing c.lock.new.self.writes) c.lock.new.self c.finish.new.self)
    (Leaves g.L.Law.holds (Committing c.args.self.now.writes) c.args.self.now c.finish.new.self)
    (commit_leaves c.in_ok-lock.ensures.kept c.in_ok-lock.ensures.stays
    c.in_ok-lock.ensures.locked c.in_ok-lock.ensures.done c.finish.new.self) c.finish.ensures.leaves

pub returns-clause-number : goal.returns-clause-number
returns-clause-number g c =
    IfOk-weaker c.finish.result (Commits c.lock.new.self c.finish.new.self) (Commits c.args.self.now c.finish.new.self)
    (commit_commits c.in_ok-lock.ensures.kept c.in_ok-lock.ensures.stays
    c.in_ok-lock.ensures.locked c.in_ok-lock.ensures.done c.finish.new.self) c.finish.ensures.number
