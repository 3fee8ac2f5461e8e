use Rattle.std.proofs.Common.{refl}
use Rattle.dstm_structures.proofs.Doing.{does-as, does-write}
use Rattle.dstm_structures.proofs.Tipping.{clear_fork_is}
use Rattle.dstm_structures.proofs.order.Order.clear_fork.Goals as goal

pub returns-clause-frees : goal.returns-clause-frees
returns-clause-frees g c =
    does-as (does-write c.in_ok-set.ensures.puts.1)
    (λ before after size writes. clear_fork_is c.args.self.cells c.args.cell c.fork_at.result.object
    c.in_ok-set.ensures.puts.0 (0, 0) before after size c.requires c.fork_at.ensures writes refl)
