use Rattle.dstm_engine.proofs.tx.Tx.recheck.Goals as goal

pub returns-clause-place : goal.returns-clause-place
returns-clause-place g c = c.recheck.ensures.place _ _
