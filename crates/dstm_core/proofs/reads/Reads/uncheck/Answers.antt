use Rattle.std.proofs.Common.{refl}
use Rattle.dstm_core.proofs.Indexing.{same_list, count_zero}
use Rattle.dstm_core.proofs.reads.Reads.uncheck.Goals as goal

pub returns : goal.returns
returns c = rw (← c.self.view_is) (same_list _ _ refl (count_zero c.self.inside.live.keys))
