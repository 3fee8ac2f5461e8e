use Rattle.dstm_structures.specs.Orders.{IsPrevious}
use Rattle.dstm_structures.proofs.Doing.{does-read, does-then}
use Rattle.dstm_structures.proofs.Ordering.{finds-all}
use Rattle.dstm_structures.proofs.order.Order.previous.Goals as goal

pub returns-clause-precedes : goal.returns-clause-precedes
returns-clause-precedes g c =
    does-then c.in_ok-root.ensures.keeps (does-read c.in_ok-root.ensures.gets) c.in_ok-place.ensures.precedes
    (λ before mid after size. finds-all c.args.self.cells (IsPrevious c.args.key) c.root_at.result.object c.in_ok-root.root
    c.in_ok-place.place before mid after c.root_at.ensures)
