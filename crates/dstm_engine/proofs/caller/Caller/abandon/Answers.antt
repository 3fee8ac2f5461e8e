use Rattle.std.proofs.Common.{◌∙◌, ap, subst, sym}
use Rattle.dstm_engine.proofs.Abandoning.{ended_is_known, leaving_keeps}
use Rattle.dstm_engine.proofs.Retired.{leaving_done}
use Rattle.dstm_engine.specs.Attempts.{done}
use Rattle.dstm_engine.specs.Calls.{IsUnderWay}
use Rattle.dstm_engine.specs.Outcomes.{IsEnded}
use Rattle.dstm_engine.proofs.caller.Caller.abandon.Goals as goal

pub returns-clause-attempt : goal.returns-clause-attempt
returns-clause-attempt g c = leaving_keeps c.leave.ensures.steps

pub returns-clause-done : goal.returns-clause-done
returns-clause-done g c =
    ap done c.leave.ensures.kept
    ∙ leaving_done c.leave.ensures.steps

pub returns-clause-ended : goal.returns-clause-ended
returns-clause-ended g c = λ way.
    subst IsEnded c.self.view_is (ended_is_known c.self.invariant (subst IsUnderWay (sym c.self.view_is) way))
