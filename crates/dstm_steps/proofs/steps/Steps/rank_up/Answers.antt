use Rattle.std.proofs.Common.{ap, refl}
use Rattle.dstm_steps.specs.declared.steps.Steps.{Steps}
use Rattle.dstm_steps.proofs.Checks.{own_below}
use Rattle.dstm_steps.proofs.Stepping.{went_on, past_went}
use Rattle.dstm_steps.proofs.steps.Steps.rank_up.Goals as goal

pub rank-place-requires-clause-below : goal.rank-place-requires-clause-below
rank-place-requires-clause-below g c = own_below c.requires.under (rw c.requires.running.phase refl)

pub returns-clause-under : goal.returns-clause-under
returns-clause-under g c =
    let rest = c.store.ensures.rest in
    let m = c.requires.under.mirror in
    let went = c.store.ensures.went.1 in
    let new : Steps g.row.L.Denot = record c.store.new.self { rank = c.min-rank.result } in
    went_on {steps = new} went refl (record {
      shape = ap (λ (s : Steps g.row.L.Denot). s.shape) rest;
      manager = ap (λ (s : Steps g.row.L.Denot). s.decider.manager) rest;
      mirror = record { own = rw rest m.own; installed = rw rest m.installed; rank = refl };
      effort = rw rest refl;
    }) (rw (went.state, c.requires.running.phase) refl) (rw went.state c.requires.running.agreed)
    (rw rest c.requires.tries)

pub returns-clause-past : goal.returns-clause-past
returns-clause-past g c = past_went c.store.ensures.went.1
