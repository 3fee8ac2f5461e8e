use Rattle.std.proofs.Common.{◌<◌, ◌≤◌, List}
use Rattle.dstm_model.specs.declared.value.Val.{Val}
use Rattle.dstm_attempts.specs.Attempts.{StoodTogether}
use Rattle.dstm_cells.specs.UnderWay.{MayBegin}
use Rattle.dstm_structures.specs.Effects.{Does, GoesOn}
use Rattle.dstm_structures.specs.Maps.{end_of}
use Rattle.dstm_structures.proofs.Items.{Counting}
use Rattle.dstm_structures.proofs.map.HashMap.len.Given as goal

-- the keys are counted that are found at the places that were passed
abbrev pub invariant-loop-at : goal.invariant-loop-at
invariant-loop-at g l =
    (l.count ≤ l.at)
    × GoesOn g.L.Law.holds l.fn.tx l.tx
    × Does g.L.Law.holds (end_of l.self) (Counting g.V.Word.found l.self l.at l.count) l.fn.tx.attempts.caller
    l.tx.attempts.caller
    × (0 < l.at → (map : List Val) × MayBegin g.L.Law.holds l.tx.attempts.caller map)
    × (0 < l.at → StoodTogether g.L.Law.holds l.tx.attempts.caller)
