use Rattle.dstm_engine.proofs.Base.{Doing, Reading, number_or, view_of}
use Rattle.dstm_steps.proofs.Stepping.{began_as}
use Rattle.dstm_engine.proofs.caller.Caller.read_kept.Given as goal

abbrev pub ghosts-read_object : goal.ghosts-read_object
ghosts-read_object g a = record {
  began = began_as a.words.now (Doing (Reading a.object)) (number_or (view_of a.steps.now.seat).number 0) a.steps.now;
}
