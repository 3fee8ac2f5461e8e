use Rattle.dstm_structures.proofs.Laws.{lawful-twice}
use Rattle.example_office.proofs.Seats.{holds, passed, room, stand}
use Rattle.example_office.proofs.hall.pass.Goals as goal

pub returns-clause-lawful : goal.returns-clause-lawful
returns-clause-lawful c untouched =
    let at = stand c.args.one c.args.other c.requires.maps in
    lawful-twice holds 513 room at.3 at.4 c.remove.ensures.goes.keeps (rw c.in-Some.is at c.in_ok-remove.ensures.removes)
    (rw c.in-New.is at c.in_ok-put.ensures.puts) untouched (λ law before mid after. passed c.requires.maps)
