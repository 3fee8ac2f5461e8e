use Rattle.dstm_opacity.proofs.Example.{some_run}
use Rattle.dstm_opacity.proofs.some_run.Goals as goal

pub returns : goal.returns
returns c = some_run
