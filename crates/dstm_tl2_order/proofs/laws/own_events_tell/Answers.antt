use Rattle.std.proofs.Common.{sym, ◌∙◌}
use Rattle.dstm_tl2_order.specs.Ended.{draws}
use Rattle.dstm_tl2_order.proofs.Ones.{one_same}
use Rattle.dstm_tl2_order.proofs.WasRead.{same_reads}
use Rattle.dstm_tl2_order.proofs.laws.own_events_tell.Goals as goal

pub returns : goal.returns
returns c = λ t one other c i same.
    ((λ none. sym (one_same draws t one other c i same) ∙ none), same_reads t one other c i same)
