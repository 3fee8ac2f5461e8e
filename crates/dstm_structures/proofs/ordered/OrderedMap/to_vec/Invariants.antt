use Rattle.std.proofs.Common.{List}
use Rattle.dstm_model.specs.declared.value.Val.{Val}
use Rattle.dstm_attempts.specs.Attempts.{StoodTogether}
use Rattle.dstm_cells.specs.UnderWay.{MayBegin}
use Rattle.dstm_structures.specs.Effects.{Does, GoesOn}
use Rattle.dstm_structures.specs.Orders.{order_end}
use Rattle.dstm_structures.proofs.Items.{Walking, left_above}
use Rattle.dstm_structures.proofs.ordered.OrderedMap.to_vec.Given as goal

-- the items are listed that are before the next one
abbrev pub invariant-loop-next : goal.invariant-loop-next
invariant-loop-next g l =
    GoesOn g.L.Law.holds l.fn.tx l.tx
    × Does g.L.Law.holds (order_end l.self.map.cells) (Walking g.V.Word.found l.self l.items.items l.next)
    l.fn.tx.attempts.caller l.tx.attempts.caller
    × ((map : List Val) × MayBegin g.L.Law.holds l.tx.attempts.caller map)
    × StoodTogether g.L.Law.holds l.tx.attempts.caller

abbrev pub decreases-loop-next : goal.decreases-loop-next
decreases-loop-next g l = left_above l.next
