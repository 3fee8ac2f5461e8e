use Rattle.dstm_engine.proofs.Base.{Doing, Writing, number_or, view_of}
use Rattle.dstm_steps.proofs.Stepping.{began_as}
use Rattle.dstm_engine.proofs.caller.Caller.write_kept.Given as goal

abbrev pub ghosts-write_object : goal.ghosts-write_object
ghosts-write_object g a = record {
  began = began_as a.words.now (Doing (Writing a.object)) (number_or (view_of a.steps.now.seat).number 0) a.steps.now;
}
