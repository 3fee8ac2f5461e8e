use Rattle.dstm_engine.proofs.Handing.{finds}
use Rattle.dstm_engine.proofs.tx.TxMem.open_write.Goals as goal

pub returns-clause-found : goal.returns-clause-found
returns-clause-found g c =
    finds g.L.Law.holds c.args.self.now.caller.now c.open_write.result c.open_write.ensures.kept
    c.args.o c.requires.exists c.open_write.ensures.value
