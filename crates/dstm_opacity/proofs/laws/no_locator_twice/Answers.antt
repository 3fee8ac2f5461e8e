use Rattle.std.proofs.Common.{sym, ◌∷◌, ◌++◌}
use Rattle.dstm_core.proofs.Locators.{no_locator_twice}
use Rattle.dstm_core.proofs.Pasts.{core_past}
use Rattle.dstm_opacity.proofs.laws.no_locator_twice.Goals as goal

pub returns : goal.returns
returns g c = λ law shape start later between before early late run one other same.
    no_locator_twice shape between before late early
    (core_past shape later (late ∷ (between ++ early ∷ before)) run.core)
    other.kind other.succeeds one.kind one.succeeds (sym same)
