use Rattle.dstm_opacity.proofs.Opacity.{place_prefix}
use Rattle.dstm_opacity.proofs.laws.places_have_prefixes.Goals as goal

pub returns : goal.returns
returns g c = λ law shape start later before run. place_prefix shape start later before
