use Rattle.std.proofs.Common.{◌≡◌, length}
use Rattle.dstm_structures.specs.Effects.{Does, GoesOn, StillMay, StillTogether}
use Rattle.dstm_structures.specs.Orders.{order_end}
use Rattle.dstm_structures.proofs.Items.{WalkingAbove}
use Rattle.dstm_structures.proofs.ordered.OrderedMap.list_above.Given as goal

-- so many items are listed, all up to the last key
abbrev pub invariant-loop-told : goal.invariant-loop-told
invariant-loop-told g l =
    GoesOn g.L.Law.holds l.fn.tx l.tx
    × Does g.L.Law.holds (order_end l.self.map.cells) (WalkingAbove g.V.Word.found l.self l.key l.last l.items.items)
    l.fn.tx.attempts.caller l.tx.attempts.caller
    × StillMay g.L.Law.holds l.fn.tx.attempts.caller l.tx.attempts.caller
    × (length l.items.items ≡ l._told)
    × StillTogether g.L.Law.holds l.fn.tx.attempts.caller l.tx.attempts.caller
