use Rattle.std.proofs.Common.{◌∙◌, None, arith, ap, ◌+◌}
use Rattle.dstm_engine.specs.Transactions.{TxPlace}
use Rattle.dstm_order.specs.Tasks.Task.{Doing}
use Rattle.dstm_order.specs.Tasks.Work.{Rechecking}
use Rattle.dstm_engine.proofs.LettingGo.{lets_none_go}
use Rattle.dstm_engine.proofs.Continuing.{doing_keeps}
use Rattle.dstm_engine.proofs.Looked.{looks_stay, recheck_one}
use Rattle.dstm_jobs.specs.Law.{keeps}
use Rattle.dstm_jobs.proofs.Rechecking.{recheck_sees}
use Rattle.dstm_jobs.proofs.dstm.recheck_often.Goals as goal

pub loop-pass-preserved : goal.loop-pass-preserved
loop-pass-preserved c =
    let was = c.loop-pass.invariant.1 in
    let more = c.in_ok-recheck.ensures in
    let n = c.recheck.new.self.caller.now in (
      λ o. more.opened o ∙ c.loop-pass.invariant.0 o,
      record {
        live = more.live;
        held = λ o. more.held o ∙ was.held o;
        looks =
            (let later = looks_stay c.loop-pass.tx.caller.now n more.stays.steps.same.0 more.stays.steps.same.1
            more.stays.steps.seen (ap (λ (p : TxPlace _). p.began) more.place) in
            let before = was.looks in omega arith);
        sights = more.sights ∙ ap (λ count. count + 1) was.sights ∙ omega arith;
        newest = λ some. recheck_sees c.loop-pass.tx.caller.now n was.live more.stays.steps more.live;
      },
      more.reference ∙ c.loop-pass.invariant.2,
      more.table ∙ c.loop-pass.invariant.3,
      more.place ∙ c.loop-pass.invariant.4,
      lets_none_go keeps c.loop-pass.tx.caller.now n (Doing Rechecking) None tt more.stays.steps ∙ c.loop-pass.invariant.5,
    )

pub returns-in_err-recheck-clause-kept : goal.returns-in_err-recheck-clause-kept
returns-in_err-recheck-clause-kept c =
    lets_none_go keeps c.loop-pass.tx.caller.now c.recheck.new.self.caller.now (Doing Rechecking) _ tt
    c.in_err-recheck.ensures.leaves.steps ∙ c.loop-pass.invariant.5

pub returns-clause-few : goal.returns-clause-few
returns-clause-few c = let was = c.loop-pass.invariant.1 in record { sights = omega arith; looks = was.looks }

-- a recheck that fails is one of them
pub returns-in_err-recheck-clause-few : goal.returns-in_err-recheck-clause-few
returns-in_err-recheck-clause-few c =
    let was = c.loop-pass.invariant.1 in
    let left = c.in_err-recheck.ensures.leaves.steps in
    let n = c.recheck.new.self.caller.now in
    let one = recheck_one (doing_keeps left) left in
    let later = looks_stay c.loop-pass.tx.caller.now n left.same.0 left.same.1 left.seen (doing_keeps left) in
    let before = was.sights in
    let looked = was.looks in
    record { sights = omega arith; looks = omega arith }
