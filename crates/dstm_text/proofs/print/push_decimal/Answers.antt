use Rattle.std.proofs.Common.{◌++◌, List, ℕ, ap, ◌∙◌, sym}
use Rattle.std.proofs.lemmas.Fmt.{decimal_digit}
use Rattle.dstm_text.proofs.print.push_decimal.Goals as goal

pub returns-then-number-lt10-clause-ok : goal.returns-then-number-lt10-clause-ok
returns-then-number-lt10-clause-ok c =
    let digit = decimal_digit c.args.number c.if-number-lt10.true in
    c.in_ok-push.ensures.items ∙ ap (λ (t : List ℕ). c.args.out.now.items ++ t) (sym digit)
