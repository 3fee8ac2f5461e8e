use Rattle.dstm_structures.specs.Looks.{Shows, StandsSomewhere}
use Rattle.dstm_structures.proofs.Mapping.{Seeking}
use Rattle.dstm_structures.proofs.map.HashMap.find_by.Given as goal

-- the key does not stand at the places that were passed
abbrev pub invariant-loop-passed : goal.invariant-loop-passed
invariant-loop-passed g l =
    g.B.Looks.Stays l.fn.by l.by
    × Shows g.B.Looks.Stands (λ values. Seeking l.self l.key l.reach l.passed values values) l.by
    × StandsSomewhere g.B.Looks.Stands g.B.Looks.Together l.by
