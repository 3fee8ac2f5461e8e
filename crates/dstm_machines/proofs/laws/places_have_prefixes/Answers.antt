use Rattle.dstm_machines.proofs.Gathered.{told_prefix}
use Rattle.dstm_machines.proofs.laws.places_have_prefixes.Goals as goal

pub returns : goal.returns
returns g c = λ commits entry later before. told_prefix commits entry later before
