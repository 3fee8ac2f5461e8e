use Rattle.dstm_report.proofs.Holding.{lawful_held}
use Rattle.dstm_report.proofs.checking.lawful_is_held.Goals as goal

pub returns : goal.returns
returns c = lawful_held
