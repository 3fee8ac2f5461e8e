use Rattle.dstm_opacity.proofs.Kept.{drawn_entry_stays}
use Rattle.dstm_opacity.proofs.laws.entry_stays.Goals as goal

pub returns : goal.returns
returns c = λ shape start later before draw core kind.
    drawn_entry_stays shape start later before draw core kind
