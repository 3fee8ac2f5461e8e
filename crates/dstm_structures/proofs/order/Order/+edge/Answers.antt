use Rattle.std.proofs.Common.{◌∙◌, arith, sym}
use Rattle.dstm_structures.specs.Orders.{IsEdge}
use Rattle.dstm_structures.proofs.Doing.{does-as, does-still, does-then}
use Rattle.dstm_structures.proofs.Ordering.{ends-fork, ends-tip, finds-nothing, finds-stopped}
use Rattle.dstm_structures.proofs.order.Order.+edge.Goals as goal

pub returns-in-Nothing-clause-ends : goal.returns-in-Nothing-clause-ends
returns-in-Nothing-clause-ends g t c =
    does-still (λ values. finds-nothing c.args.self.cells (IsEdge c.args.greatest) c.args.link c.args.under values
    (sym c.in-Nothing.is ∙ c.link.ensures.is))

pub returns-in-Tip-clause-ends : goal.returns-in-Tip-clause-ends
returns-in-Tip-clause-ends g t c =
    does-still (λ values. ends-tip c.args.self.cells c.args.greatest c.args.link c.args.under c.in-Tip.at values
    (sym c.in-Tip.is ∙ c.link.ensures.is))

pub returns-then-fork-under-clause-ends : goal.returns-then-fork-under-clause-ends
returns-then-fork-under-clause-ends g t c =
    let fork = c.in_ok-fork-in-Fork.fork in
    does-as c.in_ok-fork-in-Fork.ensures.looks
    (λ before after size looks. finds-stopped c.args.self.cells c.args.link c.args.under c.in-Fork.at fork.level fork.prefix
    fork.left fork.right (sym c.in-Fork.is ∙ c.link.ensures.is) (IsEdge c.args.greatest) before after
    (omega (arith, c.if-fork-under.true)) looks.tells looks.same)

pub edge-requires : goal.edge-requires
edge-requires g t c κs within =
    (omega (arith, c.if-fork-under.false, c.decreases), (within.0, (within.1, omega (arith, c.if-fork-under.false, c.requires))))

pub returns-in_ok-place-in-Fork-clause-ends : goal.returns-in_ok-place-in-Fork-clause-ends
returns-in_ok-place-in-Fork-clause-ends g t c =
    let fork = c.in_ok-fork-in-Fork.fork in
    does-then c.in_ok-fork-in-Fork.ensures.goes.keeps c.in_ok-fork-in-Fork.ensures.looks c.in_ok-place-in-Fork.ensures.ends
    (λ before mid after size looks ends. ends-fork c.args.self.cells c.args.link c.args.under c.in-Fork.at fork.level
    fork.prefix fork.left fork.right (sym c.in-Fork.is ∙ c.link.ensures.is) c.args.greatest c.side.result
    c.in_ok-place-in-Fork.place before mid after c.side.ensures looks.tells looks.same ends)
