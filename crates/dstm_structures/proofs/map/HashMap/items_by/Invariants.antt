use Rattle.std.proofs.Common.{◌<◌}
use Rattle.dstm_structures.specs.Looks.{Shows, StandsSomewhere}
use Rattle.dstm_structures.proofs.Items.{Listing}
use Rattle.dstm_structures.proofs.map.HashMap.items_by.Given as goal

-- the items are listed that are found at the places that were passed
abbrev pub invariant-loop-at : goal.invariant-loop-at
invariant-loop-at g l =
    g.B.Looks.Stays l.fn.by l.by
    × Shows g.B.Looks.Stands (λ values. Listing g.V.Word.found l.self l.at l.items.items values values) l.by
    × (0 < l.at → StandsSomewhere g.B.Looks.Stands g.B.Looks.Together l.by)
