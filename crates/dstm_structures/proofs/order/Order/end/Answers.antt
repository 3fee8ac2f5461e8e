use Rattle.dstm_structures.specs.Orders.{IsEdge}
use Rattle.dstm_structures.proofs.Doing.{does-read, does-then}
use Rattle.dstm_structures.proofs.Ordering.{finds-all}
use Rattle.dstm_structures.proofs.order.Order.end.Goals as goal

pub returns-clause-ends : goal.returns-clause-ends
returns-clause-ends g c =
    does-then c.in_ok-root.ensures.keeps (does-read c.in_ok-root.ensures.gets) c.in_ok-place.ensures.ends
    (λ before mid after size. finds-all c.args.self.cells (IsEdge c.args.greatest) c.root_at.result.object c.in_ok-root.root
    c.in_ok-place.place before mid after c.root_at.ensures)
