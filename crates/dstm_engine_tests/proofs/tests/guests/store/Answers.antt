use Rattle.dstm_engine_tests.proofs.GuestSteps.{stored}
use Rattle.dstm_engine_tests.proofs.tests.guests.store.Goals as goal

pub returns : goal.returns
returns c =
    stored c.args.words.now _ c.args.seat.now c.store.new.seat c.args.event.now c.args.event.now.found c.requires.guest
    c.store.ensures.seat c.requires.stores c.store.ensures.event.0 c.store.ensures.event.1
