use Rattle.std.proofs.Common.{◌≡◌, ◌<◌, ℕ, List, length}
use Rattle.dstm_model.specs.declared.value.Val.{Val}
use Rattle.dstm_model.specs.Map.{value_at}
use Rattle.dstm_model.specs.contracts.value.AnyLawLaw.TheImpl as TheLaw
use Rattle.dstm_attempts.specs.Attempts.{IsUntouched, Keeps, MayBegin}
use Rattle.dstm_handles.specs.Threads.{MayCall}
use Rattle.dstm_handles.proofs.cells.all.Given as goal

-- it has set nothing and goes on, and so far the values are those of each map at which it may have begun
abbrev pub invariant-loop-cell : goal.invariant-loop-cell
invariant-loop-cell l =
    (length l.values.items ≡ l.cell)
    × Keeps l.fn.last.tx.attempts.caller l.last.tx.attempts.caller
    × IsUntouched l.last.tx.attempts.caller
    × MayCall l.last
    × ((map : List Val) → MayBegin (TheLaw.holds-value).it l.last.tx.attempts.caller map →
    (o : ℕ) → o < l.cell → value_at l.values.items o ≡ value_at map o)
