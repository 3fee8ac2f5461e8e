use Rattle.dstm_mem.proofs.WithSet.{with_set-set}
use Rattle.dstm_tl2_engine.proofs.Made.{set_admits}
use Rattle.dstm_tl2_engine.proofs.tx.TlAttemptMem.set.Goals as goal

pub returns-clause-admits : goal.returns-clause-admits
returns-clause-admits g c = λ map. set_admits g.L.Law.holds _ c.set.ensures.kept map

pub returns-clause-puts : goal.returns-clause-puts
returns-clause-puts g c = λ map. with_set-set map _ _ c.args.o c.args.v c.set.ensures.written
