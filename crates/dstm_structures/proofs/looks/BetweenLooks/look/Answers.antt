use Rattle.std.proofs.Common.{◌≡◌, ◌∙◌, ap, arith, inl, rules}
use Rattle.std.specs.Prelude.{Err}
use Rattle.dstm_model.specs.Map.{value_at}
use Rattle.dstm_structures.proofs.looks.BetweenLooks.look.Goals as goal

pub returns-clause-is : goal.returns-clause-is
returns-clause-is g c map values at =
    c.in_ok-value.ensures.gets ∙ ap (λ xs. g.T.Word.found (value_at xs c.args.cell.object)) at

pub returns-in_err-value-clause-fails : goal.returns-in_err-value-clause-fails
returns-in_err-value-clause-fails g c =
    let answer = c.from_residual.ensures in
    let is : c.from_residual.result ≡ Err c.in_err-value.field-0.0 = search rules in
    rw is
    (λ size inside. inl
    (omega (arith, c.in_err-value.ensures.foreign.0 (ap Err c.in_err-value.ensures.fails), inside), c.in_err-value.ensures.fails))
