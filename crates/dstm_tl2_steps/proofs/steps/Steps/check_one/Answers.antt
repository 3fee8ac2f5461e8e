use Rattle.std.proofs.Common.{ap, false, true, eq-eqb, ne_eqb, not}
use Rattle.dstm_tl2_steps.proofs.Checking.{check_below, check_goes}
use Rattle.dstm_tl2_steps.proofs.steps.Steps.check_one.Goals as goal

pub check-found-requires-clause-exists : goal.check-found-requires-clause-exists
check-found-requires-clause-exists g c =
    let below = check_below c.requires.under c.requires.left in rw c.requires.next.0 at below

pub returns-then-found-word-clause-good : goal.returns-then-found-word-clause-good
returns-then-found-word-clause-good g c =
    check_goes c.args.o c.check-found.result c.args.word false c.requires.under c.check-found.ensures.went
    c.requires.sound.0 c.requires.next.1 (ap not (eq-eqb c.check-found.result c.args.word c.if-found-word.true))

pub returns-clause-bad : goal.returns-clause-bad
returns-clause-bad g c =
    rw c.changed.ensures (check_goes c.args.o c.check-found.result c.args.word true c.requires.under
    c.check-found.ensures.went c.requires.sound.0 c.requires.next.1
    (ap not (ne_eqb c.check-found.result c.args.word c.if-found-word.false)))
