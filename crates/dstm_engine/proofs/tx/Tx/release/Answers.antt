use Rattle.dstm_engine.proofs.tx.Tx.release.Goals as goal

pub returns-clause-place : goal.returns-clause-place
returns-clause-place g c = c.release.ensures.place _ _
