use Rattle.dstm_engine.specs.Attempts.{looks, sights}
use Rattle.dstm_engine.proofs.tx.Tx.run.Given as goal

abbrev pub ghosts-run_by : goal.ghosts-run_by
ghosts-run_by g a = record { sights = sights a.tx.now.caller.now; looks = looks a.tx.now.caller.now }
