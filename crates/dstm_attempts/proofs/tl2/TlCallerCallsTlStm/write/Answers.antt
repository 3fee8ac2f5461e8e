use Rattle.std.proofs.Common.{◌∙◌, ◌<◌, ap, true, subst, sym}
use Rattle.dstm_tl2_engine.specs.Callers.{TlCalled}
use Rattle.dstm_tables.specs.declared.tables.Caller.TheVariants.{Tl2}
use Rattle.dstm_attempts.specs.declared.error.NotOpened.TheVariants.{Over}
use Rattle.dstm_attempts.specs.Attempts.{Finds, IsNotOpened, objects_of}
use Rattle.dstm_attempts.specs.Tl2.{StoodTogether}
use Rattle.dstm_mem.proofs.InTheEnd.{in_the_end}
use Rattle.dstm_attempts.proofs.ByTl2.{finds}
use Rattle.dstm_attempts.proofs.ClosedByTl2.{not_opened_left}
use Rattle.dstm_attempts.proofs.Resuming.{resumed}
use Rattle.dstm_attempts.proofs.tl2.TlCallerCallsTlStm.write.Goals as goal

pub returns-in-Ok-clause-finds : goal.returns-in-Ok-clause-finds
returns-in-Ok-clause-finds g c =
    let holds = g.L.Law.holds in
    let k = c.resume-tx.result.caller.now in
    let new = c.open_write.new.self.caller.now in
    resumed (λ (k n : TlCalled _). Finds holds (Tl2 k) (Tl2 n) c.args.object c.in-Ok.value) _ k new _ _ _ (assumption c)
    (sym (c.open_write.ensures.reference ∙ c.resume-tx.ensures.same)) c.resume-tx.ensures.attempt
    (finds holds k new c.args.object c.in-Ok.value (ap (λ (n : TlCalled _). n.set) c.open_write.ensures.kept)
    (subst (λ (k : TlCalled _). c.args.object < objects_of (Tl2 k)) (sym c.resume-tx.ensures.attempt)
    c.in_ok-may_open.ensures.exists) c.open_write.ensures.narrows c.in-Ok.ensures.value)

pub returns-in-Err-clause-stops : goal.returns-in-Err-clause-stops
returns-in-Err-clause-stops g c =
    let holds = g.L.Law.holds in
    let k = c.resume-tx.result.caller.now in
    let new = c.open_write.new.self.caller.now in
    resumed (λ (k n : TlCalled _). IsNotOpened holds true c.args.object (Tl2 k) (Tl2 n) Over) _ k new _ _ _ (assumption c)
    (sym (c.open_write.ensures.reference ∙ c.resume-tx.ensures.same)) c.resume-tx.ensures.attempt
    (not_opened_left holds true c.args.object k new c.in-Err.field-0 c.in-Err.ensures.leaves
    c.in-Err.ensures.live (ap (λ (n : TlCalled _). n.set) c.open_write.ensures.kept) c.open_write.ensures.narrows)

pub returns-in-Ok-clause-together : goal.returns-in-Ok-clause-together
returns-in-Ok-clause-together g c =
    in_the_end (StoodTogether g.L.Law.holds) _ _ _ c.open_write.new.self.caller.now (assumption c)
    (sym (c.open_write.ensures.reference ∙ c.resume-tx.ensures.same)) (record { seen = c.open_write.ensures.seen })
