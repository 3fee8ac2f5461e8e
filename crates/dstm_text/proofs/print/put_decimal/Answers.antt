use Rattle.std.proofs.Common.{◌++◌, List, ℕ, ap, ◌∙◌, sym}
use Rattle.std.proofs.lemmas.Fmt.{decimal_digit}
use Rattle.dstm_text.proofs.print.put_decimal.Goals as goal

pub returns-then-number-lt10-clause-items : goal.returns-then-number-lt10-clause-items
returns-then-number-lt10-clause-items c =
    let digit = decimal_digit c.args.number c.if-number-lt10.true in
    c.push_reserved.ensures.items ∙ ap (λ (t : List ℕ). c.args.out.now.items ++ t) (sym digit)
