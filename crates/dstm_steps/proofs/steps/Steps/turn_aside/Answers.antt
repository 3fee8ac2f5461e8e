use Rattle.std.proofs.Common.{refl, inr}
use Rattle.dstm_steps.proofs.Ranged.{live_small, owner_below}
use Rattle.dstm_steps.proofs.Stepping.{after_rest, went_on}
use Rattle.dstm_steps.proofs.steps.Steps.turn_aside.Goals as goal

pub status-place-requires-clause-below : goal.status-place-requires-clause-below
status-place-requires-clause-below g c =
    owner_below c.requires.under (inr c.requires.phase) c.requires.agreed.0 c.requires.owner
    (live_small _ c.requires.status.1)

pub returns-clause-under : goal.returns-clause-under
returns-clause-under g c =
    let look = c.look-status.ensures in
    let m = c.requires.under.mirror in
    went_on look.went refl (after_rest look.rest refl (record { own = m.own; installed = m.installed; rank = m.rank })
    (rw (c.requires.status.0, c.requires.phase, look.rest) refl))
    (rw (look.went.state, c.requires.phase) refl) (rw look.went.state c.requires.agreed.0)
    (rw look.rest c.requires.tries)
