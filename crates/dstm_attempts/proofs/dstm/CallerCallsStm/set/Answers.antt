use Rattle.std.proofs.Common.{◌∙◌, sym}
use Rattle.dstm_engine.specs.Callers.{Called}
use Rattle.dstm_tables.specs.declared.tables.Caller.TheVariants.{Dstm}
use Rattle.dstm_attempts.specs.Attempts.{Puts}
use Rattle.dstm_attempts.proofs.ByDstm.{puts}
use Rattle.dstm_attempts.proofs.Resuming.{resumed}
use Rattle.dstm_attempts.proofs.dstm.CallerCallsStm.set.Goals as goal

pub returns-clause-puts : goal.returns-clause-puts
returns-clause-puts g c =
    resumed (λ (k n : Called _). Puts g.L.Law.holds (Dstm k) (Dstm n) c.args.object c.args.value) _ _ _ _ _ _ (assumption c)
    (sym (c.set.ensures.reference ∙ c.resume.ensures.same)) c.resume.ensures.attempt
    (puts _ _ _ _ _ c.set.ensures.kept c.set.ensures.written)
