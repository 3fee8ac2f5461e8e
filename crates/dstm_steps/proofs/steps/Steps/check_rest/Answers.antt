use Rattle.std.proofs.Common.{◌+◌, drop, refl, sym, subst, inl, inr, ◌∙◌}
use Rattle.dstm_steps.proofs.Checks.{same_is, Checking, checked_one, checked_none, checked_all, next_is, checking_done}
use Rattle.dstm_steps.proofs.Stepping.{under_is}
use Rattle.dstm_order.specs.Order.{in_checking}
use Rattle.dstm_steps.specs.declared.steps.Steps.{Steps}
use Rattle.dstm_steps.specs.Under.{now}
use Rattle.dstm_steps.proofs.steps.Steps.check_rest.Goals as goal
use Rattle.dstm_steps.proofs.steps.Steps.check_rest.Goals.{else-read-via-then-read+else-not-check_drawn, else-read-via-else-read}

pub check_drawn-requires-clause-read : goal.check_drawn-requires-clause-read
check_drawn-requires-clause-read g c =
    next_is c.args.reads.now c.loop-read.read-index c.loop-read.invariant c.loop-read-test.true c.if-read.true

pub loop-read-preserved : goal.loop-read-preserved
loop-read-preserved g c =
    let reads = c.args.reads.now in
    let i = c.loop-read.read-index in
    let inv = c.loop-read.invariant in
    let Rest : Steps g.row.L.Denot → Type 0 = λ steps. Checking g.L.Law.holds c.args.words.now g.B.InCall.began
    in_checking (now c.args.words.now c.args.self.now) steps (drop (i + 1) reads) in
    elim c.else-read.branch [
      | else-read-via-then-read+else-not-check_drawn w ↦
          let good = w.if-not-check_drawn.false in
          let drawn = w.check_drawn.ensures in
          subst Rest (sym w.self-is) (checked_one reads i inv c.loop-read-test.true w.if-read.true
          (drawn.good good) (drawn.state good) drawn.tries)
      | else-read-via-else-read w ↦
          subst Rest (sym w.self-is) (checked_none reads i inv c.loop-read-test.true w.if-read.false)
    ]

pub returns-clause-done : goal.returns-clause-done
returns-clause-done g c =
    inl (checked_all c.args.reads.now c.loop-read.read-index c.loop-read.invariant c.loop-read-test.false)

pub returns-clause-all : goal.returns-clause-all
returns-clause-all g c =
    under_is c.loop-read.invariant.under (checking_done (now c.args.words.now c.loop-read.self)
    (checked_all c.args.reads.now c.loop-read.read-index c.loop-read.invariant c.loop-read-test.false)) refl

pub returns-then-skip-clause-done : goal.returns-then-skip-clause-done
returns-then-skip-clause-done g c = inr (same_is _ _ (c.requires.skip ∙ c.if-skip.true))
