use Rattle.dstm_structures.specs.Effects.{Does, GoesOn, StillMay, StillTogether}
use Rattle.dstm_structures.specs.Orders.{order_end}
use Rattle.dstm_structures.proofs.Tipping.{PassingForks}
use Rattle.dstm_structures.proofs.order.Order.free_fork.Given as goal

-- none of the cells that were passed is free
abbrev pub invariant-loop-passed : goal.invariant-loop-passed
invariant-loop-passed g l =
    GoesOn g.L.Law.holds l.fn.tx l.tx
    × Does g.L.Law.holds (order_end l.self.cells) (PassingForks l.self.cells l.home l.passed) l.fn.tx.attempts.caller l.tx.attempts.caller
    × StillMay g.L.Law.holds l.fn.tx.attempts.caller l.tx.attempts.caller
    × StillTogether g.L.Law.holds l.fn.tx.attempts.caller l.tx.attempts.caller
