use Rattle.dstm_opacity.proofs.Contest.{some_contest}
use Rattle.dstm_opacity.proofs.some_contest.Goals as goal

pub returns : goal.returns
returns c = some_contest
