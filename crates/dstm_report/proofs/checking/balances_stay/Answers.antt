use Rattle.dstm_report.proofs.Totals.{total_stays}
use Rattle.dstm_report.proofs.checking.balances_stay.Goals as goal

pub returns : goal.returns
returns c = total_stays
