use Rattle.dstm_tl2_engine.proofs.Base.{Doing, Finishing}
use Rattle.dstm_tl2_engine.proofs.Calling.{begun_as}
use Rattle.dstm_tl2_engine.proofs.caller.TlCaller.finish.Given as goal

abbrev pub ghosts-finish : goal.ghosts-finish
ghosts-finish g a = record {
  began = begun_as a.words.now (Doing (Finishing a.opened.now.writes)) a.self.now;
}
