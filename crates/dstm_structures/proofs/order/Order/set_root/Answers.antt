use Rattle.dstm_structures.proofs.Doing.{does-as, does-write}
use Rattle.dstm_structures.proofs.Tipping.{root_set}
use Rattle.dstm_structures.proofs.order.Order.set_root.Goals as goal

pub returns-clause-sets : goal.returns-clause-sets
returns-clause-sets g c =
    let cells = c.args.self.cells in
    let had = c.in_ok-set.ensures.puts.0 in
    does-as (does-write c.in_ok-set.ensures.puts.1)
    (λ before after size. root_set cells c.root_at.result.object c.args.was had c.args.now before after size
    c.root_at.ensures)
