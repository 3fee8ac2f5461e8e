use Rattle.dstm_engine.proofs.Base.{Doing, Releasing, number_or, view_of}
use Rattle.dstm_steps.proofs.Stepping.{began_as}
use Rattle.dstm_engine.proofs.caller.Caller.release.Given as goal

abbrev pub ghosts-release : goal.ghosts-release
ghosts-release g a = record {
  began = began_as a.words.now (Doing (Releasing a.object)) (number_or (view_of a.self.now.seat).number 0) a.self.now;
}
