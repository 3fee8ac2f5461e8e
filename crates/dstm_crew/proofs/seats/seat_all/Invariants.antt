use Rattle.std.proofs.Common.{◌≤◌, length}
use Rattle.std.specs.Prelude.{All, vec_capacity}
use Rattle.std.specs.Vec.Iter.{into_iter_items}
use Rattle.dstm_crew.specs.Seats.{HasCome}
use Rattle.dstm_crew.proofs.Seating.{Seats}
use Rattle.dstm_crew.proofs.seats.seat_all.Given as goal

abbrev pub invariant-loop-share : goal.invariant-loop-share
invariant-loop-share l =
    All (HasCome l.options) l.workers.items
    × Seats l.table l.fn.shares.items l.workers.items (into_iter_items l.share-iterator) l.founder
    × (length l.fn.shares.items ≤ vec_capacity l.workers)
