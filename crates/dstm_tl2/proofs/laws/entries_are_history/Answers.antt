use Rattle.dstm_tl2.proofs.Standing.{entries_are_history}
use Rattle.dstm_tl2.proofs.laws.entries_are_history.Goals as goal

pub returns : goal.returns
returns c = λ table run. entries_are_history table run
