use Rattle.dstm_structures.specs.Effects.{Does, GoesOn, StillMay, StillTogether}
use Rattle.dstm_structures.specs.Maps.{end_of}
use Rattle.dstm_structures.proofs.Mapping.{PassingBy}
use Rattle.dstm_structures.proofs.map.HashMap.free.Given as goal

-- none of the places that were passed is free
abbrev pub invariant-loop-passed : goal.invariant-loop-passed
invariant-loop-passed g l =
    GoesOn g.L.Law.holds l.fn.tx l.tx
    × Does g.L.Law.holds (end_of l.self) (PassingBy l.self l.home l.reach l.passed) l.fn.tx.attempts.caller l.tx.attempts.caller
    × StillMay g.L.Law.holds l.fn.tx.attempts.caller l.tx.attempts.caller
    × StillTogether g.L.Law.holds l.fn.tx.attempts.caller l.tx.attempts.caller
