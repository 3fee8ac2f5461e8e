use Rattle.std.proofs.Common.{arith, inl}
use Rattle.dstm_structures.proofs.Laws.{did-read, did-write, lawful-thrice}
use Rattle.example_office.proofs.Seats.{holds, offered, room, stand}
use Rattle.example_office.proofs.hall.offer.Goals as goal

pub returns-clause-lawful : goal.returns-clause-lawful
returns-clause-lawful c untouched =
    let hall = c.args.hall in
    let at = stand hall.free hall.sold (inl hall.cells.1) in
    lawful-thrice holds 513 room (omega arith) at.3 (omega arith) c.get.ensures.keeps c.put.ensures.goes.keeps
    (did-read 513 (rw hall.cells.0 at c.in_ok-seat.ensures.gets)) (rw c.in-New.is at c.in_ok-put.ensures.puts)
    (did-write 513 (rw hall.cells.0 at c.in_ok-set.ensures.puts.1)) untouched
    (λ law before mid near after. offered hall.free hall.sold hall.cells.1)
