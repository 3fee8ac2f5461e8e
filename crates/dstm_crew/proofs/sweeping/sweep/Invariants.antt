use Rattle.std.specs.Prelude.{◌≡◌, ◌≤◌, ◌+◌, List, length, Bool}
use Rattle.dstm_jobs.specs.Tables.{Caller}
use Rattle.dstm_tables.specs.Callers.{let_go}
use Rattle.dstm_records.specs.Records.{KeepsReads}
use Rattle.dstm_report.specs.declared.report.Row.{Row}
use Rattle.dstm_report.specs.Turns.{Turning}
use Rattle.dstm_crew.specs.Alone.{CanRunAlone, MayStep, Sweeps, is_done}
use Rattle.dstm_crew.specs.declared.sweeping.Swept.TheVariants as swept
use Rattle.dstm_crew.proofs.sweeping.sweep.Given as goal

abbrev pub invariant-loop-worker : goal.invariant-loop-worker
invariant-loop-worker g l =
    MayStep l.play.workload.now l.table l.caller l.rows.items l.turns
    × (length l.rows.items + length l.turns.left ≤ l.rows.room)
    × (length l.turns.left ≤ length l.fn.turns.left)
    × ((first : Caller) (before : List Row) (begun : Turning) →
    CanRunAlone l.play.workload.now l.play.options.now l.number l.table first before begun →
    Sweeps l.play.workload.now l.play.options.now l.number first l.fn.caller before l.fn.rows.items l.fn.turns 0
    Bool.false →
    Sweeps l.play.workload.now l.play.options.now l.number first l.caller before l.rows.items l.turns l.worker
    (is_done l.swept))
    × (l.swept ≡ swept.Spent → ⊥)
    × (KeepsReads l.play.options.now l.play.workload.now.version → let_go l.caller ≡ let_go l.fn.caller)
