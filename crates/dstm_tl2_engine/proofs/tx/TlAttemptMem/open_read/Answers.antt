use Rattle.std.proofs.Common.{ap}
use Rattle.dstm_tl2_engine.proofs.Handing.{finds}
use Rattle.dstm_tl2_engine.specs.Callers.{TlCalled, objects_of}
use Rattle.dstm_tl2_engine.proofs.tx.TlAttemptMem.open_read.Goals as goal

pub returns-clause-found : goal.returns-clause-found
returns-clause-found g c =
    finds g.L.Law.holds c.open_read.new.self.caller.now c.open_read.result c.args.o _
    (ap (λ (k : TlCalled _). objects_of k) c.open_read.ensures.kept) c.requires.exists c.open_read.ensures.value
