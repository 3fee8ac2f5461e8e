use Rattle.std.proofs.Common.{arith}
use Rattle.dstm_seats.proofs.Parting.{splits}
use Rattle.dstm_seats.proofs.words.Words.split.Goals as goal

pub split_seat-requires : goal.split_seat-requires
split_seat-requires g c =
    let wide = c.self.invariant.1 in
    let some = g.M.Machine.enrolling.has_count (g.M.Machine.shared.table c.self.inside.table.shared.key) in
    let seat = rw (← c.self.view_is) at c.requires.seat in (
      seat.0,
      omega arith,
      splits g.M.Machine.shared g.M.Machine.enrolling c.self.inside.table.shared.key _ _ seat.2 c.requires.first,
    )
