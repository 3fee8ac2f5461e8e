use Rattle.std.proofs.Common.{◌<◌, subst, arith}
use Rattle.dstm_core.specs.declared.state.Phase.TheVariants.{Running}
use Rattle.dstm_order.specs.declared.TheConstants.{MAX_MISSED}
use Rattle.dstm_steps.specs.Conflicts.{Meets}
use Rattle.dstm_steps.proofs.Meeting.{killed_as}
use Rattle.dstm_steps.proofs.steps.Steps.abort.Goals as goal

pub returns-else-self-eq-MAX_MISSED-clause-met : goal.returns-else-self-eq-MAX_MISSED-clause-met
returns-else-self-eq-MAX_MISSED-clause-met g c =
    let kill = c.in-Err.ensures in
    let met = c.requires.met in
    let tries : c.kill.new.self.missed < MAX_MISSED =
    let one = kill.missed.1 in let before = met.tries in let other = c.if-self-eq-MAX_MISSED.false in omega arith in
    subst (Meets g.L.Law.holds c.args.words.now g.B.InCall.began Running c.kill.new.self c.args.owner) kill.state.3
    (killed_as met (kill.goes_on tries) kill.state.2 c.requires.left kill.kept.0 kill.kept.1 tries)
