use Rattle.std.proofs.Common.{Err, refl}
use Rattle.dstm_handles.specs.declared.code.Code.TheVariants.{Closed}
use Rattle.dstm_c.proofs.Opening.{by_closed}
use Rattle.dstm_c.proofs.exports.set.Goals as goal

pub returns-in_default : goal.returns-in_default
returns-in_default c = (Err Closed, refl, by_closed _ _ _ _ c.in_default.ensures c.closed.ensures refl)
