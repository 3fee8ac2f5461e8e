use Rattle.std.proofs.Common.{◌/◌, ◌^◌, arith, refl, sym}
use Rattle.dstm_structures.specs.Tips.{AddsOver}
use Rattle.dstm_structures.proofs.Doing.{does-as, does-is, does-still}
use Rattle.dstm_structures.proofs.Tipping.{over_high, over_set}
use Rattle.dstm_structures.proofs.order.Order.add_over.Goals as goal

pub returns-then-level-ge64-clause-adds : goal.returns-then-level-ge64-clause-adds
returns-then-level-ge64-clause-adds g c =
    let added = c.args.added in
    does-is (AddsOver c.args.self.cells added.key added.at added.cell c.args.over c.args.fork)
    (sym c.to_fork.ensures) (does-still
    (λ values. over_high c.args.self.cells added.key added.at added.cell c.args.over c.parting-higher.result
    (added.key / 2 ^ c.args.fork.level / 2) c.args.fork values refl c.parting-higher.ensures.differ
    (omega (arith, c.if-level-ge64.true))))

pub returns-clause-adds : goal.returns-clause-adds
returns-clause-adds g c =
    let added = c.args.added in
    let ours = added.key / 2 ^ c.args.fork.level / 2 in
    let higher_by = c.parting-higher.result in
    does-is (AddsOver c.args.self.cells added.key added.at added.cell c.args.over c.args.fork)
    (sym c.to_fork-3.ensures) (does-as c.in_ok-set_fork.ensures.sets
    (λ before after size sets. over_set c.args.self.cells added.key added.at added.cell c.args.over higher_by ours c.args.fork
    before refl c.parting-higher.ensures.differ (ours / 2 ^ higher_by) (c.args.fork.prefix / 2 ^ higher_by) c.to_tip.result
    c.to_fork-2.result c.parted-parts.result after c.requires.at c.requires.cell c.parting-higher.ensures.same refl refl
    c.parted-parts.ensures.level c.parted-parts.ensures.prefix c.parted-parts.ensures.left c.parted-parts.ensures.right
    c.to_tip.ensures c.to_fork-2.ensures sets))
