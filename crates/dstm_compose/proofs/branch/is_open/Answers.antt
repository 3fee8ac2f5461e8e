use Rattle.std.proofs.Common.{sym, ◌∙◌}
use Rattle.std.proofs.lemmas.Result.{IfOk-weaker, on_ok_weaker}
use Rattle.dstm_compose.proofs.Branches.{open-condition, awaited_of-condition}
use Rattle.dstm_compose.proofs.branch.is_open.Goals as goal

pub returns-in-Some-clause-tells : goal.returns-in-Some-clause-tells
returns-in-Some-clause-tells g c =
    IfOk-weaker c.holds.result _ _
    (λ yes tells map admitted store stands.
    tells map admitted store stands
    ∙ sym (open-condition store c.args.branch.now c.in-Some.cond (sym c.in-Some.ensures)))
    c.holds.ensures.tells

pub returns-in-Some-clause-awaited : goal.returns-in-Some-clause-awaited
returns-in-Some-clause-awaited g c =
    on_ok_weaker c.holds.result
    (λ about o apart.
    about o
    (λ concerns. apart
    (awaited_of-condition c.args.layout.now c.args.branch.now c.in-Some.cond o (sym c.in-Some.ensures) concerns)))
    c.holds.ensures.about
