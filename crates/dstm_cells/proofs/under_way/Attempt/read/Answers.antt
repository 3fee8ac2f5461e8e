use Rattle.std.proofs.Common.{Ok, refl, subst, sym}
use Rattle.dstm_attempts.proofs.UnderWay.{found_unset}
use Rattle.dstm_cells.specs.UnderWay.{Refuses, StopsLook, stop_for}
use Rattle.dstm_cells.proofs.Calling.{err_is, is_err}
use Rattle.dstm_cells.proofs.Stopping.{refuses_none, refuses_why, stops_look}
use Rattle.dstm_cells.proofs.Undoing.{notes_nothing}
use Rattle.dstm_cells.proofs.under_way.Attempt.read.Goals as goal

pub returns-in_err-value-clause-stops : goal.returns-in_err-value-clause-stops
returns-in_err-value-clause-stops g c =
    let why = c.in_err-value.field-0.0 in
    let k = c.args.self.now.attempts.caller in
    let n = c.read.new.self.caller in
    is_err c.from_residual.result (stop_for why) (λ stop. StopsLook g.L.Law.holds c.args.object k n stop.why) c.from_residual.ensures.1
    (stops_look g.L.Law.holds c.args.object k n why c.in_err-value.ensures.stops)

pub returns-in_err-value-clause-refuses : goal.returns-in_err-value-clause-refuses
returns-in_err-value-clause-refuses g c =
    let why = c.in_err-value.field-0.0 in
    let k = c.args.self.now.attempts.caller in
    subst (Refuses k c.args.object) (sym (err_is c.from_residual.result (stop_for why) c.from_residual.ensures.1))
    (refuses_why k c.args.object why c.in_err-value.ensures.refuses)

pub returns-in_err-value-clause-notes : goal.returns-in_err-value-clause-notes
returns-in_err-value-clause-notes g c =
    notes_nothing g.L.Law.holds _ _ c.in_err-value.ensures.keeps refl refl c.in_err-value.ensures.stops.unset

pub returns-clause-refuses : goal.returns-clause-refuses
returns-clause-refuses g c =
    refuses_none c.args.self.now.attempts.caller c.args.object c.in_ok-value.value (Ok c.in_ok-value.value)
    c.in_ok-value.ensures.refuses

pub returns-clause-notes : goal.returns-clause-notes
returns-clause-notes g c =
    notes_nothing g.L.Law.holds _ _ c.in_ok-value.ensures.keeps refl refl
    (found_unset g.L.Law.holds c.args.self.now.attempts.caller c.read.new.self.caller c.args.object c.in_ok-value.value
    c.in_ok-value.ensures.finds)
