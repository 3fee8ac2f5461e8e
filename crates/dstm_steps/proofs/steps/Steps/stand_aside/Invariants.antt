use Rattle.std.proofs.Common.{◌≡◌}
use Rattle.dstm_core.specs.declared.state.Phase.TheVariants.{Paused}
use Rattle.dstm_steps.specs.Conflicts.{Keeps, Meets}
use Rattle.dstm_steps.specs.Under.{now}
use Rattle.dstm_steps.proofs.steps.Steps.stand_aside.Given as goal

abbrev pub invariant-loop-self : goal.invariant-loop-self
invariant-loop-self g l = record {
  met : Meets g.L.Law.holds l.words g.B.InCall.began Paused l.self l.owner l.code;
  keeps : Keeps (now l.words l.fn.self) (now l.words l.self);
  missed : l.self.missed ≡ l.fn.self.missed;
  round : l.self.round ≡ l.fn.self.round;
}

abbrev pub decreases-loop-self : goal.decreases-loop-self
decreases-loop-self g l = l.self.left
