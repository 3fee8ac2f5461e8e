use Rattle.dstm_opacity.proofs.Opacity.{entry_stands}
use Rattle.dstm_opacity.proofs.laws.commits_stand.Goals as goal

pub returns : goal.returns
returns g c = λ law shape start later before draw run kind committed.
    entry_stands shape start later before draw kind committed
