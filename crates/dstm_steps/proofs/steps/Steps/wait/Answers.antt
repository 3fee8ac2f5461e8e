use Rattle.std.proofs.Common.{refl, ◌∙◌}
use Rattle.dstm_steps.proofs.Meeting.{keeps_status, keeps_then, turned}
use Rattle.dstm_steps.proofs.steps.Steps.wait.Goals as goal

pub loop-self-preserved : goal.loop-self-preserved
loop-self-preserved g c = let inv = c.loop-self.invariant in let turn = c.turn-code.ensures in record {
  met = turned inv.met turn.under refl c.loop-self-test.true turn.state turn.rounds turn.left.1;
  keeps = keeps_then inv.keeps (keeps_status turn.state);
  rounds = turn.rounds ∙ inv.rounds;
  missed = turn.left.1 ∙ inv.missed;
}
