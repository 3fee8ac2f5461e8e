use Rattle.std.proofs.Common.{◌≡◌, ◌≤◌, length, map}
use Rattle.std.specs.Prelude.{vec_capacity}
use Rattle.std.specs.Vec.Iter.{into_iter_items}
use Rattle.dstm_crew.specs.Seats.{share_of}
use Rattle.dstm_crew.proofs.Taking.{Takes}
use Rattle.dstm_crew.proofs.retiring.retire_all.Given as goal

abbrev pub invariant-loop-worker : goal.invariant-loop-worker
invariant-loop-worker l =
    Takes l.table l.fn.workers.items l.yielded (into_iter_items l.worker-iterator) l.founder
    × (l.shares.items ≡ map share_of l.yielded)
    × (length l.fn.workers.items ≤ vec_capacity l.shares)
