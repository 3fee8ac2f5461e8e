use Rattle.example_office.proofs.Seats.{initially}
use Rattle.example_office.proofs.hall.sell_seats.Goals as goal

pub run_work-requires-clause-lawful : goal.run_work-requires-clause-lawful
run_work-requires-clause-lawful g c κs within =
    initially c.in_ok-free.ensures.capacity c.in_ok-sold.ensures.capacity c.with_law-memory.ensures.empty
    c.in_ok-offered.ensures.made c.in_ok-free.ensures.adds c.in_ok-sold.ensures.adds
