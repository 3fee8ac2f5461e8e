use Rattle.std.proofs.Common.{Err, refl}
use Rattle.dstm_handles.specs.declared.code.Code.TheVariants.{Closed}
use Rattle.dstm_c.proofs.Opening.{by_closed}
use Rattle.dstm_c.proofs.exports.dstmc_thread_new.Goals as goal

pub returns-in-None-clause-opens : goal.returns-in-None-clause-opens
returns-in-None-clause-opens c was = record {
  answer = Err Closed;
  told = c.number-in-None.ensures.is;
  held = tt;
  closed = c.take.ensures.closed;
  gives = by_closed _ _ _ _ c.in-None.ensures.held c.take-2.ensures.closed refl;
}
