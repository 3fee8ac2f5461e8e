use Rattle.std.proofs.Common.{refl}
use Rattle.dstm_core.specs.declared.event.Kind.TheVariants.{Stamp}
use Rattle.dstm_machines.specs.Traces.Access.{Add}
use Rattle.dstm_order.specs.Tasks.Task.{Beginning}
use Rattle.dstm_steps.specs.Under.{WentOn, made_by}
use Rattle.dstm_steps.proofs.Stepping.{took}
use Rattle.dstm_steps.proofs.steps.Steps.stamp.Given.{Over}
use Rattle.dstm_steps.proofs.steps.Steps.stamp.Goals.{After-add-self}
use Rattle.dstm_steps.proofs.steps.Steps.stamp.Goals as goal

went : (g : Over) (c : After-add-self g) →
    WentOn g.L.Law.holds c.args.words.now (Beginning c.args.fresh) g.B.InCall.began c.args.self.now
    (record c.args.self.now { seat = c.add-self.new.self; rank = c.add-self.result })
    (made_by g.B.InCall.began Add Stamp c.stamps_place-place.result c.add-self.result)
went g c = took c.requires.under Add c.add-self.ensures.event c.add-self.ensures.seat (refl, tt)

pub returns-clause-state : goal.returns-clause-state
returns-clause-state g c = (went g (goal.at.returns-clause-state g c).After-add-self).state

pub returns-clause-under : goal.returns-clause-under
returns-clause-under g c =
    let m = c.requires.under.mirror in
    (went g (goal.at.returns-clause-under g c).After-add-self).goes_on _ refl (record {
      shape = refl;
      manager = refl;
      mirror = record { own = m.own; installed = m.installed; rank = refl };
      effort = refl;
    })
