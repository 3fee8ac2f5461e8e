use Rattle.std.proofs.Common.{Err, refl}
use Rattle.dstm_handles.specs.declared.code.Code.TheVariants.{Closed}
use Rattle.dstm_c.proofs.Opening.{by_closed}
use Rattle.dstm_c.proofs.calls.make.Goals as goal

pub returns-in-None : goal.returns-in-None
returns-in-None c = record {
  answer = Err Closed;
  is = c.number.ensures.is;
  put = tt;
  still = refl;
  tells = by_closed _ _ _ _ c.in-None.ensures.held c.take.ensures.closed refl;
}
