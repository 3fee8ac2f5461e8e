use Rattle.std.proofs.Common.{List}
use Rattle.dstm_model.specs.declared.value.Val.{Val}
use Rattle.dstm_attempts.specs.Attempts.{StoodTogether}
use Rattle.dstm_cells.specs.UnderWay.{MayBegin}
use Rattle.dstm_structures.specs.Effects.{Does, GoesOn}
use Rattle.dstm_structures.specs.Maps.{end_of}
use Rattle.dstm_structures.proofs.Mapping.{Clearing}
use Rattle.dstm_structures.proofs.map.HashMap.clear.Given as goal

-- the places that were passed do not hold the key any more
abbrev pub invariant-loop-passed : goal.invariant-loop-passed
invariant-loop-passed g l =
    GoesOn g.L.Law.holds l.fn.tx l.tx
    × Does g.L.Law.holds (end_of l.self) (Clearing l.self l.key l.reach l.passed) l.fn.tx.attempts.caller l.tx.attempts.caller
    × ((map : List Val) × MayBegin g.L.Law.holds l.tx.attempts.caller map)
    × StoodTogether g.L.Law.holds l.tx.attempts.caller
