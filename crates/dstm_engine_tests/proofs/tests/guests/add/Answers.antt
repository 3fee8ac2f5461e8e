use Rattle.dstm_engine_tests.proofs.GuestSteps.{added}
use Rattle.dstm_engine_tests.proofs.tests.guests.add.Goals as goal

pub returns : goal.returns
returns c =
    added c.args.words.now _ c.args.seat.now c.add.new.seat c.args.event.now c.add.result c.requires.guest
    c.add.ensures.seat c.requires.adds c.add.ensures.event
