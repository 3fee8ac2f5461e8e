use Rattle.std.proofs.Common.{◌∙◌, ◌<◌, ap, false, subst, sym}
use Rattle.dstm_mem.proofs.InTheEnd.{in_the_end}
use Rattle.dstm_engine.specs.Attempts.{Sighted}
use Rattle.dstm_engine.specs.Callers.{Called, shape_of}
use Rattle.dstm_tables.specs.declared.tables.Caller.TheVariants.{Dstm}
use Rattle.dstm_attempts.specs.declared.error.NotOpened.TheVariants.{Over}
use Rattle.dstm_attempts.specs.Attempts.{Finds, IsNotOpened}
use Rattle.dstm_attempts.specs.Waiting.{OpensNoMore}
use Rattle.dstm_attempts.proofs.ByDstm.{finds, not_opened_left}
use Rattle.dstm_attempts.proofs.Resuming.{resumed}
use Rattle.dstm_attempts.proofs.dstm.CallerCallsStm.read.Goals as goal

pub returns-in-Ok-clause-finds : goal.returns-in-Ok-clause-finds
returns-in-Ok-clause-finds g c =
    let holds = g.L.Law.holds in
    let k = c.resume-tx.result.caller.now in
    let new = c.open_read.new.self.caller.now in
    resumed (λ (k n : Called _). Finds holds (Dstm k) (Dstm n) c.args.object c.in-Ok.value) _ k new _ _ _ (assumption c)
    (sym (c.open_read.ensures.reference ∙ c.resume-tx.ensures.same)) c.resume-tx.ensures.attempt
    (finds holds k new c.args.object c.in-Ok.value (ap (λ (n : Called _). n.set) c.open_read.ensures.kept)
    (subst (λ (k : Called _). c.args.object < (shape_of k).objects) (sym c.resume-tx.ensures.attempt)
    c.in_ok-may_open.ensures.exists) c.open_read.ensures.narrows c.in-Ok.ensures.value)

pub returns-in-Err-clause-stops : goal.returns-in-Err-clause-stops
returns-in-Err-clause-stops g c =
    let holds = g.L.Law.holds in
    let k = c.resume-tx.result.caller.now in
    let new = c.open_read.new.self.caller.now in
    resumed (λ (k n : Called _). IsNotOpened holds false c.args.object (Dstm k) (Dstm n) Over) _ k new _ _ _ (assumption c)
    (sym (c.open_read.ensures.reference ∙ c.resume-tx.ensures.same)) c.resume-tx.ensures.attempt
    (not_opened_left holds false c.args.object k new c.in-Err.field-0 c.in-Err.ensures.leaves
    c.in-Err.ensures.live (ap (λ (n : Called _). n.set) c.open_read.ensures.kept) c.open_read.ensures.narrows)

pub returns-in-Ok-clause-unmarked : goal.returns-in-Ok-clause-unmarked
returns-in-Ok-clause-unmarked g c =
    resumed OpensNoMore _ c.resume-tx.result.caller.now c.open_read.new.self.caller.now _ _ _ (assumption c)
    (sym (c.open_read.ensures.reference ∙ c.resume-tx.ensures.same)) c.resume-tx.ensures.attempt
    (record { unmarked = c.in-Ok.ensures.unmarked })

pub returns-in-Ok-clause-together : goal.returns-in-Ok-clause-together
returns-in-Ok-clause-together g c =
    in_the_end Sighted _ _ _ c.open_read.new.self.caller.now (assumption c)
    (sym (c.open_read.ensures.reference ∙ c.resume-tx.ensures.same)) c.in-Ok.ensures.sight
