use Rattle.dstm_order.proofs.Validations.{every_pass}
use Rattle.dstm_order.proofs.laws.passes_are_complete.Goals as goal

pub returns : goal.returns
returns c = every_pass
