use Rattle.std.proofs.Common.{◌∙◌, sym}
use Rattle.dstm_tl2_engine.specs.Callers.{TlCalled}
use Rattle.dstm_tables.specs.declared.tables.Caller.TheVariants.{Tl2}
use Rattle.dstm_attempts.specs.Attempts.{Puts}
use Rattle.dstm_attempts.proofs.ByTl2.{puts}
use Rattle.dstm_attempts.proofs.Resuming.{resumed}
use Rattle.dstm_attempts.proofs.tl2.TlCallerCallsTlStm.set.Goals as goal

pub returns-clause-puts : goal.returns-clause-puts
returns-clause-puts g c =
    resumed (λ (k n : TlCalled _). Puts g.L.Law.holds (Tl2 k) (Tl2 n) c.args.object c.args.value) _ _ _ _ _ _ (assumption c)
    (sym (c.set.ensures.reference ∙ c.resume.ensures.same)) c.resume.ensures.attempt
    (puts _ _ _ _ _ c.set.ensures.kept c.set.ensures.written)
