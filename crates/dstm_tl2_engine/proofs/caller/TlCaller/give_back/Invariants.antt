use Rattle.dstm_tl2_order.specs.Tasks.Task.{Returning}
use Rattle.dstm_tl2_engine.proofs.Calling.{begun_as}
use Rattle.dstm_tl2_engine.proofs.caller.TlCaller.give_back.Given as goal

abbrev pub ghosts-free_first : goal.ghosts-free_first
ghosts-free_first g a = record { began = begun_as a.words.now Returning a.steps.now }
