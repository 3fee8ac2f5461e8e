use Rattle.dstm_core.specs.declared.event.Kind.TheVariants.{PutOld}
use Rattle.dstm_steps.proofs.Ranged.{in_word}
use Rattle.dstm_steps.proofs.steps.Steps.put_old.Goals as goal

pub old_cell-place-requires-clause-below : goal.old_cell-place-requires-clause-below
old_cell-place-requires-clause-below g c =
    let r = c.requires in
    rw r.under.shape (rw r.locator at (in_word r.under PutOld (λ q. absurd (cc))
    (r.running.phase, r.running.agreed, r.resolved.0, r.resolved.1, r.held)))
