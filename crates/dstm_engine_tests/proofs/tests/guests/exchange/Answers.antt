use Rattle.dstm_engine_tests.proofs.GuestSteps.{exchanged}
use Rattle.dstm_engine_tests.proofs.tests.guests.exchange.Goals as goal

pub returns-in-Ok : goal.returns-in-Ok
returns-in-Ok c =
    exchanged c.args.words.now _ c.args.seat.now c.exchange.new.seat c.args.event.now c.in-Ok.found c.requires.guest
    c.in-Ok.ensures.seat c.requires.exchanges c.in-Ok.ensures.event
