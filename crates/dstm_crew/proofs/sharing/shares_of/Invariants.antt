use Rattle.std.specs.List.{filter, range_with_len}
use Rattle.dstm_crew.specs.Shares.{AreShares, takes_part}
use Rattle.dstm_crew.proofs.sharing.shares_of.Given as goal

abbrev pub invariant-loop-worker : goal.invariant-loop-worker
invariant-loop-worker l =
    AreShares l.workload l.turns.left (filter (takes_part l.number l.turns.left) (range_with_len 0 l.worker)) l.shares.items
