use Rattle.std.proofs.Common.{refl, ◌∙◌}
use Rattle.dstm_steps.proofs.Meeting.{keeps_status, keeps_then, turned_aside}
use Rattle.dstm_steps.proofs.steps.Steps.stand_aside.Goals as goal

pub loop-self-preserved : goal.loop-self-preserved
loop-self-preserved g c = let inv = c.loop-self.invariant in let turn = c.turn_aside-code.ensures in record {
  met = turned_aside inv.met turn.under refl turn.state turn.left.2 turn.left.1;
  keeps = keeps_then inv.keeps (keeps_status turn.state);
  missed = turn.left.1 ∙ inv.missed;
  round = turn.left.2 ∙ inv.round;
}
