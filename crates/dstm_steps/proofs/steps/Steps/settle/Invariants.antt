use Rattle.std.proofs.Common.{◌≡◌, ◌≤◌, true}
use Rattle.dstm_core.specs.State.{res, or_zero, is_live}
use Rattle.dstm_core.specs.declared.state.Phase.TheVariants.{Running}
use Rattle.dstm_steps.specs.Conflicts.{Keeps, Meets, patience_left}
use Rattle.dstm_steps.specs.Under.{now}
use Rattle.dstm_steps.proofs.steps.Steps.settle.Given as goal

abbrev pub invariant-loop-status : goal.invariant-loop-status
invariant-loop-status g l = record {
  met : Meets g.L.Law.holds l.words g.B.InCall.began Running l.self l.owner l.code;
  keeps : Keeps (now l.words l.fn.self) (now l.words l.self);
  rank : or_zero (res (now l.words l.self)).rank ≡ l.enemy;
  tried : l.fn.self.missed ≤ l.self.missed;
  left : is_live l.code ≡ true → l.self.left ≡ 0;
}

abbrev pub decreases-loop-status : goal.decreases-loop-status
decreases-loop-status g l = patience_left l.self.missed l.self.round l.code
