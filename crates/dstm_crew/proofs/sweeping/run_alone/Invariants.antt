use Rattle.std.specs.Prelude.{◌≡◌, ◌+◌, ◌≤◌, length, Bool}
use Rattle.dstm_tables.specs.Callers.{let_go}
use Rattle.dstm_records.specs.Records.{KeepsReads}
use Rattle.dstm_crew.specs.Alone.{MayStep, Sweeps}
use Rattle.dstm_crew.proofs.sweeping.run_alone.Given as goal

abbrev pub invariant-loop-turns : goal.invariant-loop-turns
invariant-loop-turns g l =
    MayStep l.play.workload.now l.table l.caller l.rows.items l.turns
    × (length l.rows.items + length l.turns.left ≤ l.rows.room)
    × Sweeps l.play.workload.now l.play.options.now l.number l.fn.caller l.caller l.fn.rows.items l.rows.items l.turns 0
    Bool.false
    × (KeepsReads l.play.options.now l.play.workload.now.version → let_go l.caller ≡ let_go l.fn.caller)

abbrev pub decreases-loop-turns : goal.decreases-loop-turns
decreases-loop-turns g l = length l.turns.left
