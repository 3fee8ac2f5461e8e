use Rattle.std.proofs.Common.{◌≡◌}
use Rattle.dstm_attempts.specs.Attempts.{AddsNothing}
use Rattle.dstm_handles.specs.Memories.{table_at}
use Rattle.dstm_handles.proofs.memory.Home.values.Given as goal

-- it is the same table and founder, and the memory's own part has committed nothing more
abbrev pub invariant-loop-reading : goal.invariant-loop-reading
invariant-loop-reading l =
    AddsNothing l.fn.self.last.tx.attempts.caller l.self.last.tx.attempts.caller × (table_at l.self ≡ table_at l.fn.self)
    × (l.self.founder ≡ l.fn.self.founder)
