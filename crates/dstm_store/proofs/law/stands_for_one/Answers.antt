use Rattle.dstm_store.proofs.One.{stands-for-one}
use Rattle.dstm_store.proofs.law.stands_for_one.Goals as goal

pub returns : goal.returns
returns c = stands-for-one
