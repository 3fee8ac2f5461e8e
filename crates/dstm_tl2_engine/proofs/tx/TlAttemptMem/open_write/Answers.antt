use Rattle.std.proofs.Common.{ap}
use Rattle.dstm_tl2_engine.proofs.Handing.{finds}
use Rattle.dstm_tl2_engine.specs.Callers.{TlCalled, objects_of}
use Rattle.dstm_tl2_engine.proofs.tx.TlAttemptMem.open_write.Goals as goal

pub returns-clause-found : goal.returns-clause-found
returns-clause-found g c =
    finds g.L.Law.holds c.open_write.new.self.caller.now c.open_write.result c.args.o _
    (ap (λ (k : TlCalled _). objects_of k) c.open_write.ensures.kept) c.requires.exists c.open_write.ensures.value
