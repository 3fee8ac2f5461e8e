use Rattle.dstm_structures.proofs.Doing.{does-as, does-write}
use Rattle.dstm_structures.proofs.Tipping.{set_fork_is}
use Rattle.dstm_structures.proofs.order.Order.set_fork.Goals as goal

pub returns-clause-sets : goal.returns-clause-sets
returns-clause-sets g c =
    does-as (does-write c.in_ok-set.ensures.puts.1)
    (λ before after size writes. set_fork_is c.args.self.cells c.args.cell c.fork_at.result.object c.in_ok-set.ensures.puts.0
    c.held_of.result before after size c.requires.cell c.fork_at.ensures writes c.args.fork c.held_of.ensures.prefix
    c.held_of.ensures.level c.held_of.ensures.left c.held_of.ensures.right)
