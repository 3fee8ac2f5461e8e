use Rattle.std.proofs.Common.{rules}
use Rattle.dstm_engine.proofs.AtCall.{AtCall, at_call}
use Rattle.dstm_engine.proofs.ClosedCalls.{recheck_cause, recheck_left, recheck_left_tied, recheck_tied, rechecked}
use Rattle.dstm_engine.proofs.caller.Caller.recheck.Given.{Over}
use Rattle.dstm_engine.proofs.caller.Caller.recheck.Goals.{After-words}
use Rattle.dstm_engine.proofs.caller.Caller.recheck.Goals as goal

begun : (g : Over) (c : After-words g) →
    AtCall g.L.Law.holds c.self.inside c.args.self.now c.words.result.now c.renew.new.steps
begun g c = at_call c.self.invariant c.self.view_is c.requires.table c.words.ensures c.renew.ensures

pub invariant_of-self : goal.invariant_of-self
invariant_of-self g c =
    recheck_left_tied (begun g (goal.at.invariant_of-self g c).After-words) c.requires.live c.recheck-passed.new.last
    c.in-Err.ensures.ends

pub returns-in-Err : goal.returns-in-Err
returns-in-Err g c =
    let at = begun g (goal.at.returns-in-Err g c).After-words in
    let left = recheck_left at c.requires.live c.recheck-passed.new.last c.in-Err.ensures.ends in
    let cause = recheck_cause at c.requires.live c.recheck-passed.new.last c.in-Err.ensures.ends in
    assumption (left, cause)

pub invariant_of-self-in_default : goal.invariant_of-self-in_default
invariant_of-self-in_default g c =
    recheck_tied (begun g (goal.at.invariant_of-self-in_default g c).After-words) c.requires.live
    c.recheck-passed.new.last c.in_default.ensures.ends_well c.in_default.ensures.state.0
    c.in_default.ensures.state.1 c.in_default.ensures.state.2

pub returns-in_default : goal.returns-in_default
returns-in_default g c =
    let is = c.in_default.is in
    let on = rechecked (begun g (goal.at.returns-in_default g c).After-words) c.requires.live c.recheck-passed.new.last
    c.in_default.ensures.ends_well c.in_default.ensures.state.0
    c.in_default.ensures.state.1 c.in_default.ensures.state.2 in
    record {
      stays = rw is on.stays;
      leaves = search rules;
      cause = search rules;
      kept = rw is on.kept;
      sight = rw is on.sight;
      sights = rw is on.one_more;
      held = on.same_held;
      opened = on.same_opened;
      live = rw is on.live;
      place = on.place;
    }
