use Rattle.dstm_records.proofs.Callers.{each_is_by_calls}
use Rattle.dstm_records.proofs.laws.callers_are_by_calls.Goals as goal

pub returns : goal.returns
returns c = each_is_by_calls
