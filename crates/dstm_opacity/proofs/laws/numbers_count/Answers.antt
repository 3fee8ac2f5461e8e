use Rattle.std.proofs.Common.{◌∷◌}
use Rattle.dstm_core.proofs.Pasts.{core_past}
use Rattle.dstm_opacity.proofs.Numbers.{numbers_count}
use Rattle.dstm_opacity.proofs.laws.numbers_count.Goals as goal

pub returns : goal.returns
returns g c = λ law shape start later before draw run is.
    numbers_count shape before draw (core_past shape later (draw ∷ before) run.core) is
