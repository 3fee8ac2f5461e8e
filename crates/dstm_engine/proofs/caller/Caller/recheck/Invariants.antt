use Rattle.dstm_engine.proofs.Base.{Doing, Rechecking, number_or, view_of}
use Rattle.dstm_steps.proofs.Stepping.{began_as}
use Rattle.dstm_engine.proofs.caller.Caller.recheck.Given as goal

abbrev pub ghosts-recheck : goal.ghosts-recheck
ghosts-recheck g a = record {
  began = began_as a.words.now (Doing Rechecking) (number_or (view_of a.self.now.seat).number 0) a.self.now;
}
