use Rattle.dstm_engine_tests.proofs.GuestSteps.{loaded}
use Rattle.dstm_engine_tests.proofs.tests.guests.load.Goals as goal

pub returns : goal.returns
returns c =
    loaded c.args.words.now _ c.args.seat.now c.load.new.seat c.args.event.now c.load.result c.requires.guest
    c.load.ensures.seat c.requires.loads c.load.ensures.event
