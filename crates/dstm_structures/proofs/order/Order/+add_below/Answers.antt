use Rattle.std.proofs.Common.{ℕ, ◌/◌, ◌%◌, ◌^◌, ◌==◌, arith, refl, subst, sym, ◌∙◌}
use Rattle.std.proofs.lemmas.Grind.{common_steps}
use Rattle.dstm_structures.specs.Tips.{AddsTip}
use Rattle.dstm_structures.proofs.Doing.{does-as, does-is, does-then, does-thrice}
use Rattle.dstm_structures.proofs.Tipping.{adds_high, adds_over, adds_side, adds_tip}
use Rattle.dstm_structures.proofs.Effects.{goes-stay}
use Rattle.dstm_structures.proofs.order.Order.+add_below.Goals as goal

pub returns-in_ok-now-in-Tip-clause-adds : goal.returns-in_ok-now-in-Tip-clause-adds
returns-in_ok-now-in-Tip-clause-adds g t c =
    let added = c.args.added in
    let now = c.in_ok-now-in-Tip.now in
    does-as c.in_ok-now-in-Tip.ensures.adds
    (λ before after size adds. adds_tip c.args.self.cells added.key added.at added.cell c.args.link c.args.under c.in-Tip.place
    now before after c.in-Tip.ensures.is adds)

pub returns-then-fork-under-clause-adds : goal.returns-then-fork-under-clause-adds
returns-then-fork-under-clause-adds g t c =
    let added = c.args.added in
    let fork = c.in_ok-fork-in-Fork.fork in
    does-as c.in_ok-fork-in-Fork.ensures.looks
    (λ before after size looks. adds_high c.args.self.cells added.key added.at added.cell c.args.link c.args.under
    c.in-Fork.over fork before after after c.in-Fork.ensures.is looks c.to_fork.result
    (omega (arith, c.if-fork-under.true)))

pub returns-then-part-fork-clause-adds : goal.returns-then-part-fork-clause-adds
returns-then-part-fork-clause-adds g t c =
    let added = c.args.added in
    let fork = c.in_ok-fork-in-Fork.fork in
    let now = c.in_ok-now-in-Fork.now in
    does-then c.in_ok-fork-in-Fork.ensures.goes.keeps c.in_ok-fork-in-Fork.ensures.looks c.in_ok-now-in-Fork.ensures.adds
    (λ before mid after size looks adds. adds_over c.args.self.cells added.key added.at added.cell c.args.link c.args.under
    c.in-Fork.over fork before mid after c.in-Fork.ensures.is looks now c.requires.under adds)

pub returns-in_ok-set_side-in-Fork-clause-adds : goal.returns-in_ok-set_side-in-Fork-clause-adds
returns-in_ok-set_side-in-Fork-clause-adds g t c =
    let added = c.args.added in
    let fork = c.in_ok-fork-in-Fork.fork in
    let now = c.in_ok-now-in-Fork-2.now in
    let part = added.key / 2 ^ fork.level in
    let greater = part % 2 == 1 in
    does-is (AddsTip c.args.self.cells added.key added.at added.cell c.args.link c.args.under) (sym c.to_fork-in-Fork.ensures)
    (does-thrice c.in_ok-fork-in-Fork.ensures.goes.keeps c.in_ok-now-in-Fork-2.ensures.goes.keeps
    c.in_ok-fork-in-Fork.ensures.looks c.in_ok-now-in-Fork-2.ensures.adds c.in_ok-set_side-in-Fork.ensures.sets
    (λ before mid near after size looks adds sets. adds_side c.args.self.cells added.key added.at added.cell c.args.link
    c.args.under c.in-Fork.over fork before mid after c.in-Fork.ensures.is looks greater part now near
    c.in-Fork.ensures.inside (omega (arith, c.if-fork-under.false)) refl c.if-part-fork.false refl
    (subst (λ (side : ℕ). AddsTip c.args.self.cells added.key added.at added.cell side fork.level now mid near)
    c.side.ensures adds) sets))

pub returns-in_err-now-in-Fork-clause-stops : goal.returns-in_err-now-in-Fork-clause-stops
returns-in_err-now-in-Fork-clause-stops g t c = let stay = goes-stay c.in_ok-fork-in-Fork.ensures.goes in grind (arith, common_steps)

pub returns-in_err-now-in-Fork-2-clause-stops : goal.returns-in_err-now-in-Fork-2-clause-stops
returns-in_err-now-in-Fork-2-clause-stops g t c = let stay = goes-stay c.in_ok-fork-in-Fork.ensures.goes in grind (arith, common_steps)

pub returns-in_err-set_side-in-Fork-clause-stops : goal.returns-in_err-set_side-in-Fork-clause-stops
returns-in_err-set_side-in-Fork-clause-stops g t c = let stay = goes-stay c.in_ok-now-in-Fork-2.ensures.goes ∙ goes-stay c.in_ok-fork-in-Fork.ensures.goes in grind (arith, common_steps)
