use Rattle.dstm_core.specs.declared.event.Kind.TheVariants.{PutOwner}
use Rattle.dstm_steps.proofs.Ranged.{in_word}
use Rattle.dstm_steps.proofs.steps.Steps.put_owner.Goals as goal

pub owner-place-requires-clause-below : goal.owner-place-requires-clause-below
owner-place-requires-clause-below g c =
    let r = c.requires in
    rw r.under.shape
    (rw r.locator at (in_word r.under PutOwner (λ q. absurd (cc)) (r.running.phase, r.running.agreed, r.room)))
