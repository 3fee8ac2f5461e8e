use Rattle.dstm_core.proofs.Indexing.{all_checked}
use Rattle.dstm_core.proofs.reads.Reads.are_checked.Goals as goal

pub returns : goal.returns
returns c =
    rw (← c.self.view_is)
    (all_checked c.self.inside.recorded.items c.self.inside.live.keys c.self.inside.cursor c.is_none.result c.next_place.ensures.place c.is_none.ensures)
