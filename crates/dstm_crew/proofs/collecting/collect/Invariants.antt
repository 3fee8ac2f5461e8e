use Rattle.std.proofs.Common.{◌≡◌, ◌+◌, ◌≤◌, length}
use Rattle.dstm_crew.specs.Collecting.{IsAhead, heads}
use Rattle.dstm_crew.proofs.Merged.{Collects}
use Rattle.dstm_crew.proofs.collecting.collect.Given as goal

abbrev pub invariant-loop-lead : goal.invariant-loop-lead
invariant-loop-lead l =
    Collects l.workload l.round l.fn.rows.items l.shares l.rows.items l.turns l.next.items
    × (length l.rows.items + length l.turns.left ≤ l.rows.room) × (l.numbers.items ≡ heads l.shares l.next.items)
    × (length l.numbers.items ≡ length l.shares) × (length l.next.items ≡ length l.shares)
    × IsAhead l.numbers.items l.before

abbrev pub decreases-loop-lead : goal.decreases-loop-lead
decreases-loop-lead l = length l.turns.left
