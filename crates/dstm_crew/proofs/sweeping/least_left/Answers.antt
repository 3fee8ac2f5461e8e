use Rattle.std.proofs.Common.{◌≡◌, ◌<◌, Some, rules, ap, subst, ◌∙◌}
use Rattle.dstm_report.specs.Lawful.{first_job}
use Rattle.dstm_report.proofs.Rising.{first_own}
use Rattle.dstm_crew.proofs.sweeping.least_left.Goals as goal

pub returns-in-Some-clause-some : goal.returns-in-Some-clause-some
returns-in-Some-clause-some c =
    let job = c.in-Some.job.now in
    let turn : first_job c.loop-worker.worker c.args.turns.now.left ≡ Some job = search rules in
    ap (λ w. first_job w c.args.turns.now.left) (first_own c.loop-worker.worker c.args.turns.now.left job turn) ∙ turn

pub returns-in-Some-clause-least : goal.returns-in-Some-clause-least
returns-in-Some-clause-least c =
    let job = c.in-Some.job.now in
    let turn : first_job c.loop-worker.worker c.args.turns.now.left ≡ Some job = search rules in
    λ w less. c.loop-worker.invariant w (subst (λ v. w < v) (first_own c.loop-worker.worker c.args.turns.now.left job turn) less)
