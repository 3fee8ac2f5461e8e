use Rattle.std.proofs.Common.{◌∙◌, ℕ, ◌/◌, ◌%◌, ◌^◌, ◌==◌, refl, subst, sym, arith}
use Rattle.std.proofs.lemmas.Grind.{common_steps}
use Rattle.dstm_structures.specs.Tips.{DropsTip}
use Rattle.dstm_structures.proofs.Doing.{does-as, does-is, does-thrice}
use Rattle.dstm_structures.proofs.Dropping.{drops_apart, drops_fork, drops_side, far_side}
use Rattle.dstm_structures.proofs.Effects.{goes-stay}
use Rattle.dstm_structures.proofs.order.Order.+drop_below.Goals as goal

pub returns-then-part-fork-clause-drops : goal.returns-then-part-fork-clause-drops
returns-then-part-fork-clause-drops g t c =
    let fork = c.in_ok-fork-in-Fork.fork in
    let now = c.to_fork-then-part-fork.result in
    does-as c.in_ok-fork-in-Fork.ensures.looks
    (λ before after size looks. drops_apart c.args.self.cells c.args.key c.args.at c.args.link c.args.under c.in-Fork.from fork
    before after after c.in-Fork.ensures.is looks now (c.args.key / 2 ^ fork.level) refl c.if-part-fork.true)

pub returns-then-now-eq0-clause-drops : goal.returns-then-now-eq0-clause-drops
returns-then-now-eq0-clause-drops g t c =
    let cells = c.args.self.cells in
    let fork = c.in_ok-fork-in-Fork.fork in
    let now = c.in_ok-now-in-Fork.now in
    let part = c.args.key / 2 ^ fork.level in
    let greater = part % 2 == 1 in
    does-is (DropsTip cells c.args.key c.args.at c.args.link c.args.under)
    (sym (c.side-then-now-eq0.ensures ∙ far_side part fork.right fork.left))
    (does-thrice c.in_ok-fork-in-Fork.ensures.goes.keeps c.in_ok-now-in-Fork.ensures.goes.keeps
    c.in_ok-fork-in-Fork.ensures.looks c.in_ok-now-in-Fork.ensures.drops c.in_ok-clear_fork-in-Fork.ensures.frees
    (λ before mid near after size looks drops frees. drops_fork cells c.args.key c.args.at c.args.link c.args.under
    c.in-Fork.from fork before mid after c.in-Fork.ensures.is looks greater part now near c.in-Fork.ensures.inside refl refl
    (subst (λ (side : ℕ). DropsTip cells c.args.key c.args.at side fork.level now mid near) c.side.ensures drops)
    c.if-now-eq0.true frees))

pub returns-in_ok-set_side-in-Fork-clause-drops : goal.returns-in_ok-set_side-in-Fork-clause-drops
returns-in_ok-set_side-in-Fork-clause-drops g t c =
    let cells = c.args.self.cells in
    let fork = c.in_ok-fork-in-Fork.fork in
    let now = c.in_ok-now-in-Fork.now in
    let part = c.args.key / 2 ^ fork.level in
    let greater = part % 2 == 1 in
    does-is (DropsTip cells c.args.key c.args.at c.args.link c.args.under) (sym c.to_fork-in-Fork.ensures)
    (does-thrice c.in_ok-fork-in-Fork.ensures.goes.keeps c.in_ok-now-in-Fork.ensures.goes.keeps
    c.in_ok-fork-in-Fork.ensures.looks c.in_ok-now-in-Fork.ensures.drops c.in_ok-set_side-in-Fork.ensures.sets
    (λ before mid near after size looks drops sets. drops_side cells c.args.key c.args.at c.args.link c.args.under
    c.in-Fork.from fork before mid after c.in-Fork.ensures.is looks greater part now near c.in-Fork.ensures.inside refl refl
    (subst (λ (side : ℕ). DropsTip cells c.args.key c.args.at side fork.level now mid near) c.side.ensures drops)
    (λ e. c.if-now-eq0.false e) sets))

pub returns-in_err-now-in-Fork-clause-stops : goal.returns-in_err-now-in-Fork-clause-stops
returns-in_err-now-in-Fork-clause-stops g t c = let stay = goes-stay c.in_ok-fork-in-Fork.ensures.goes in grind (arith, common_steps)

pub returns-in_err-clear_fork-in-Fork-clause-stops : goal.returns-in_err-clear_fork-in-Fork-clause-stops
returns-in_err-clear_fork-in-Fork-clause-stops g t c = let stay = goes-stay c.in_ok-now-in-Fork.ensures.goes ∙ goes-stay c.in_ok-fork-in-Fork.ensures.goes in grind (arith, common_steps)

pub returns-in_err-set_side-in-Fork-clause-stops : goal.returns-in_err-set_side-in-Fork-clause-stops
returns-in_err-set_side-in-Fork-clause-stops g t c = let stay = goes-stay c.in_ok-now-in-Fork.ensures.goes ∙ goes-stay c.in_ok-fork-in-Fork.ensures.goes in grind (arith, common_steps)
