use Rattle.std.proofs.Common.{◌<◌, List}
use Rattle.dstm_model.specs.declared.value.Val.{Val}
use Rattle.dstm_attempts.specs.Attempts.{StoodTogether}
use Rattle.dstm_cells.specs.UnderWay.{MayBegin}
use Rattle.dstm_structures.specs.Effects.{Does, GoesOn, OpensEach}
use Rattle.dstm_structures.specs.Pools.{end_of, marks_from}
use Rattle.dstm_structures.proofs.Pools.{Passing}
use Rattle.dstm_structures.proofs.pool.Pool.free.Given as goal

-- the cells of the places that were passed are taken
abbrev pub invariant-loop-passed : goal.invariant-loop-passed
invariant-loop-passed g l =
    GoesOn g.L.Law.holds l.fn.tx l.tx
    × Does g.L.Law.holds (end_of l.self) (Passing l.self l.start l.passed) l.fn.tx.attempts.caller l.tx.attempts.caller
    × OpensEach g.L.Law.holds (marks_from l.self l.start l.passed) l.fn.tx.attempts.caller l.tx.attempts.caller
    × (0 < l.passed → (map : List Val) × MayBegin g.L.Law.holds l.tx.attempts.caller map)
    × (0 < l.passed → StoodTogether g.L.Law.holds l.tx.attempts.caller)
