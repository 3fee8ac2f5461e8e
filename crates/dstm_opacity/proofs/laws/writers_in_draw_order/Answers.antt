use Rattle.dstm_opacity.proofs.Opacity.{writer_is_earlier}
use Rattle.dstm_opacity.proofs.laws.writers_in_draw_order.Goals as goal

pub returns : goal.returns
returns g c = λ law shape start later between before early late run one other same committed.
    writer_is_earlier shape later between before run.core one other same committed
