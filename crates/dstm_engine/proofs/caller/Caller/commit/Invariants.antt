use Rattle.dstm_engine.proofs.Base.{Committing, Doing, number_or, view_of}
use Rattle.dstm_steps.proofs.Stepping.{began_as}
use Rattle.dstm_engine.proofs.Committing.{value_there}
use Rattle.dstm_engine.proofs.caller.Caller.commit.Given as goal

abbrev pub ghosts-commit : goal.ghosts-commit
ghosts-commit g a = record {
  began = began_as a.words.now (Doing (Committing (value_there a.words.now a.self.now a.writes.now))) (number_or (view_of a.self.now.seat).number 0) a.self.now;
}
