use Rattle.dstm_engine_tests.proofs.Progress.{only_live_ones_count as the_law}
use Rattle.dstm_engine_tests.proofs.laws.only_live_ones_count.Goals as goal

pub returns : goal.returns
returns c = the_law
