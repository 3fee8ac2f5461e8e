use Rattle.std.proofs.Common.{◌+◌, ◌∙◌, drop, refl, sym, subst, inl, inr}
use Rattle.dstm_steps.proofs.Checks.{Checking, checked_one, checked_none, checked_all, next_is, pass_done, same_is}
use Rattle.dstm_steps.proofs.Stepping.{under_is}
use Rattle.dstm_steps.specs.declared.steps.Steps.{Steps}
use Rattle.dstm_core.specs.Traces.{IsPastOf}
use Rattle.dstm_machines.proofs.Pasts.{past_past}
use Rattle.dstm_words.specs.Seats.{view_of}
use Rattle.dstm_order.specs.Order.{in_pass}
use Rattle.dstm_steps.specs.Under.{now}
use Rattle.dstm_steps.proofs.steps.Steps.check_all.Goals as goal
use Rattle.dstm_steps.proofs.steps.Steps.check_all.Goals.{else-read-via-then-read+else-not-check_next, else-read-via-else-read}

pub check_next-requires-clause-read : goal.check_next-requires-clause-read
check_next-requires-clause-read g c =
    next_is c.args.reads.now c.loop-read.read-index c.loop-read.invariant.checking c.loop-read-test.true c.if-read.true

pub loop-read-preserved : goal.loop-read-preserved
loop-read-preserved g c =
    let reads = c.args.reads.now in
    let i = c.loop-read.read-index in
    let inv = c.loop-read.invariant in
    let Rest : Steps g.row.L.Denot → Type 0 = λ steps. Checking g.L.Law.holds c.args.words.now g.B.InCall.began in_pass
    (now c.args.words.now c.args.self.now) steps (drop (i + 1) reads) in
    let Past : Steps g.row.L.Denot → Type 0 = λ steps. IsPastOf (view_of c.args.self.now.seat).log (view_of steps.seat).log
    in elim c.else-read.branch [
      | else-read-via-then-read+else-not-check_next w ↦
          let good = w.if-not-check_next.false in let next = w.check_next.ensures in record {
            checking = subst Rest (sym w.self-is) (checked_one reads i inv.checking c.loop-read-test.true w.if-read.true
                (next.good good) (next.state good) next.tries);
            past = subst Past (sym w.self-is) (past_past _ _ _ inv.past next.past);
          }
      | else-read-via-else-read w ↦ record {
        checking = subst Rest (sym w.self-is)
            (checked_none reads i inv.checking c.loop-read-test.true w.if-read.false);
        past = subst Past (sym w.self-is) inv.past;
      }
    ]

pub returns-clause-done : goal.returns-clause-done
returns-clause-done g c =
    inl (checked_all c.args.reads.now c.loop-read.read-index c.loop-read.invariant.checking c.loop-read-test.false)

pub returns-clause-all : goal.returns-clause-all
returns-clause-all g c =
    let checking = c.loop-read.invariant.checking in
    under_is checking.under (pass_done (now c.args.words.now c.loop-read.self)
    (checked_all c.args.reads.now c.loop-read.read-index checking c.loop-read-test.false)) refl

pub returns-then-skip-clause-done : goal.returns-then-skip-clause-done
returns-then-skip-clause-done g c = inr (same_is _ _ (c.requires.skip ∙ c.if-skip.true))
