use Rattle.dstm_tl2.proofs.Alone.{never_fails}
use Rattle.dstm_tl2.proofs.laws.alone_never_fails.Goals as goal

pub returns : goal.returns
returns g c = λ law t before e run one names. never_fails t before e run.run one names
