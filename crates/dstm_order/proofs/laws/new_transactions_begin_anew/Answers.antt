use Rattle.dstm_order.proofs.Beginnings.{new_begins}
use Rattle.dstm_order.proofs.laws.new_transactions_begin_anew.Goals as goal

pub returns : goal.returns
returns c = new_begins
