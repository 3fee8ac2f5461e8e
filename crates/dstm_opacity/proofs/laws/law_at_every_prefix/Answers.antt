use Rattle.dstm_opacity.proofs.Opacity.{prefix_is_lawful}
use Rattle.dstm_opacity.proofs.laws.law_at_every_prefix.Goals as goal

pub returns : goal.returns
returns g c = λ law shape start run prefix rest is history lawful.
    prefix_is_lawful shape start (g.L.Law.holds law) run prefix rest is history lawful
