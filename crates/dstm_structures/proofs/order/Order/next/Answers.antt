use Rattle.dstm_structures.specs.Orders.{IsNext}
use Rattle.dstm_structures.proofs.Doing.{does-read, does-then}
use Rattle.dstm_structures.proofs.Ordering.{finds-all}
use Rattle.dstm_structures.proofs.order.Order.next.Goals as goal

pub returns-clause-follows : goal.returns-clause-follows
returns-clause-follows g c =
    does-then c.in_ok-root.ensures.keeps (does-read c.in_ok-root.ensures.gets) c.in_ok-place.ensures.follows
    (λ before mid after size. finds-all c.args.self.cells (IsNext c.args.key) c.root_at.result.object c.in_ok-root.root
    c.in_ok-place.place before mid after c.root_at.ensures)
