use Rattle.std.proofs.Common.{◌≡◌, ◌<◌, ℕ, List, length}
use Rattle.dstm_model.specs.declared.value.Val.{Val}
use Rattle.dstm_model.specs.Map.{value_at}
use Rattle.dstm_cells.specs.Attempts.{ReadsInTurn}
use Rattle.dstm_cells.specs.UnderWay.{IsUntouched, Keeps, MayBegin}
use Rattle.dstm_cells.proofs.under_way.Attempt.all.Given as goal

-- it has set nothing, and so far the values are those of each map at which it may have begun; it has read these objects in turn
abbrev pub invariant-loop-object : goal.invariant-loop-object
invariant-loop-object g l =
    (length l.values.items ≡ l.object)
    × Keeps l.fn.self.attempts.caller l.self.attempts.caller
    × IsUntouched l.self.attempts.caller
    × ((map : List Val) × MayBegin g.L.Law.holds l.self.attempts.caller map)
    × ((map : List Val) → MayBegin g.L.Law.holds l.self.attempts.caller map →
    (o : ℕ) → o < l.object → value_at l.values.items o ≡ value_at map o)
    × ReadsInTurn g.L.Law.holds l.object l.fn.self.attempts.caller l.self.attempts.caller
