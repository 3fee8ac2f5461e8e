use Rattle.dstm_tl2_engine.proofs.Handing.{opens_marked}
use Rattle.dstm_tl2_engine.proofs.tx.TlAttempt.open_write.Goals as goal

pub returns-clause-opened : goal.returns-clause-opened
returns-clause-opened g c =
    (opens_marked c.args.o c.args.self.now.caller.now c.open_write.new.self c.open_write.result
    c.open_write.ensures.again c.open_write.ensures.marks).0

pub returns-clause-opens : goal.returns-clause-opens
returns-clause-opens g c =
    (opens_marked c.args.o c.args.self.now.caller.now c.open_write.new.self c.open_write.result
    c.open_write.ensures.again c.open_write.ensures.marks).1
