use Rattle.dstm_tl2_engine.proofs.Base.{Doing, Locking}
use Rattle.dstm_tl2_engine.proofs.Calling.{begun_as}
use Rattle.dstm_tl2_engine.proofs.caller.TlCaller.lock.Given as goal

abbrev pub ghosts-lock_all : goal.ghosts-lock_all
ghosts-lock_all g a = record {
  began = begun_as a.words.now (Doing (Locking a.opened.now.writes)) a.self.now;
}
