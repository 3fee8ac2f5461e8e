use Rattle.dstm_mem.proofs.WithSet.{with_set-set}
use Rattle.dstm_engine.proofs.opener.OpenerMem.set.Goals as goal

pub returns-clause-puts : goal.returns-clause-puts
returns-clause-puts g c = λ map. with_set-set map _ _ c.args.o c.args.v c.set.ensures.written
