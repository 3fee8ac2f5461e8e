use Rattle.dstm_machines.proofs.Histories.{prefix_has_place}
use Rattle.dstm_machines.proofs.laws.prefixes_have_places.Goals as goal

pub returns : goal.returns
returns g c = λ commits entry trace prefix rest is. prefix_has_place commits entry trace prefix rest is
