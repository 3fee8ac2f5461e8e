use Rattle.dstm_engine_tests.proofs.Progress.{a_cause_stands_at_its_object as the_law}
use Rattle.dstm_engine_tests.proofs.laws.a_cause_stands_at_its_object.Goals as goal

pub returns : goal.returns
returns c = the_law
