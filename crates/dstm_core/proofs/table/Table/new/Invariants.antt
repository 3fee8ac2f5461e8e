use Rattle.std.proofs.Common.{◌≡◌, replicate}
use Rattle.dstm_core.specs.State.{first}
use Rattle.dstm_core.proofs.table.Table.new.Given as goal

-- so many callers have been made, and each has made no event yet
abbrev pub invariant-loop : goal.invariant-loop
invariant-loop l = l.callers.items ≡ replicate l.counter (record { shape = l.shape; state = first })
