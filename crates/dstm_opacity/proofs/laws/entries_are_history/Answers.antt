use Rattle.dstm_opacity.proofs.Stays.{entries_are_history}
use Rattle.dstm_opacity.proofs.laws.entries_are_history.Goals as goal

pub returns : goal.returns
returns c = λ shape start run. entries_are_history shape start run
