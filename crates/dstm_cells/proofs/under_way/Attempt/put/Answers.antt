use Rattle.std.proofs.Common.{Ok, false, subst, sym}
use Rattle.dstm_attempts.proofs.UnderWay.{exchanges}
use Rattle.dstm_cells.specs.UnderWay.{Refuses, StopsChange, stop_for}
use Rattle.dstm_cells.proofs.Calling.{err_is, is_err}
use Rattle.dstm_cells.proofs.Stopping.{refuses_none, refuses_why, stops_change}
use Rattle.dstm_cells.proofs.under_way.Attempt.put.Goals as goal

pub returns-in_err-_old-clause-stops : goal.returns-in_err-_old-clause-stops
returns-in_err-_old-clause-stops g c =
    let why = c.in_err-_old.field-0.0 in
    let k = c.args.self.now.attempts.caller in
    let n = c.write.new.self.caller in
    is_err c.from_residual.result (stop_for why) (λ stop. StopsChange g.L.Law.holds false c.args.object k n stop.why) c.from_residual.ensures.1
    (stops_change g.L.Law.holds false c.args.object k n why c.in_err-_old.ensures.stops)

pub returns-in_err-_old-clause-refuses : goal.returns-in_err-_old-clause-refuses
returns-in_err-_old-clause-refuses g c =
    let why = c.in_err-_old.field-0.0 in
    let k = c.args.self.now.attempts.caller in
    subst (Refuses k c.args.object) (sym (err_is c.from_residual.result (stop_for why) c.from_residual.ensures.1))
    (refuses_why k c.args.object why c.in_err-_old.ensures.refuses)

pub returns-clause-refuses : goal.returns-clause-refuses
returns-clause-refuses g c =
    refuses_none c.args.self.now.attempts.caller c.args.object c.in_ok-_old._old (Ok tt) c.in_ok-_old.ensures.refuses

pub returns-clause-puts : goal.returns-clause-puts
returns-clause-puts g c = (
  c.in_ok-_old._old,
  exchanges g.L.Law.holds _ _ _ c.args.object c.in_ok-_old._old c.args.value c.in_ok-_old.ensures.finds c.set.ensures.puts,
)

pub returns-clause-once : goal.returns-clause-once
returns-clause-once g c =
    record { opened = c.write.new.self.caller; once = c.in_ok-_old.ensures.once; still = c.set.ensures.still }
