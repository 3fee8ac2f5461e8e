use Rattle.std.proofs.Common.{◌∷◌, ◌++◌}
use Rattle.dstm_core.proofs.Pasts.{core_past}
use Rattle.dstm_opacity.proofs.Numbers.{numbers_rise}
use Rattle.dstm_opacity.proofs.laws.numbers_rise.Goals as goal

pub returns : goal.returns
returns g c = λ law shape start later between before early late run one other.
    numbers_rise shape between before early late
    (core_past shape later (late ∷ (between ++ early ∷ before)) run.core) one other
