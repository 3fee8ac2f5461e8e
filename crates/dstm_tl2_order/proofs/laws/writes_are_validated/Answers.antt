use Rattle.dstm_tl2_order.proofs.Validated.{validated}
use Rattle.dstm_tl2_order.proofs.laws.writes_are_validated.Goals as goal

pub returns : goal.returns
returns c = λ work table state event events obeys is. validated table state work event events obeys is
