use Rattle.dstm_tl2_engine.proofs.Base.{Doing, Opening}
use Rattle.dstm_tl2_engine.proofs.Calling.{begun_as}
use Rattle.dstm_tl2_engine.proofs.caller.TlCaller.read_first.Given as goal

abbrev pub ghosts-read : goal.ghosts-read
ghosts-read g a = record { began = begun_as a.words.now (Doing (Opening a.o)) a.self.now }
