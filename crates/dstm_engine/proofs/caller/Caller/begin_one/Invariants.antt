use Rattle.dstm_engine.proofs.Base.{Beginning, number_or, view_of}
use Rattle.dstm_steps.proofs.Stepping.{began_as}
use Rattle.dstm_engine.proofs.caller.Caller.begin_one.Given as goal

abbrev pub ghosts-begin_next : goal.ghosts-begin_next
ghosts-begin_next g a = record {
  began = began_as a.words.now (Beginning a.fresh) (number_or (view_of a.steps.now.seat).number 0) a.steps.now;
}
