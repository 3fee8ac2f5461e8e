use Rattle.dstm_tl2_order.specs.Tasks.Task.{Beginning}
use Rattle.dstm_tl2_engine.proofs.Calling.{begun_as}
use Rattle.dstm_tl2_engine.proofs.caller.TlCaller.begin_one.Given as goal

abbrev pub ghosts-begin_next : goal.ghosts-begin_next
ghosts-begin_next g a = record { began = begun_as a.words.now Beginning a.steps.now }
