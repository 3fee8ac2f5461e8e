use Rattle.std.proofs.Common.{rules, ◌≡◌, List, ℕ, [], ◌∷◌, ◌++◌, decimal, sym, subst, arith, OnOk}
use Rattle.dstm_text.proofs.Decimals.{decimal_two, decimal_three, decimal_four, decimal_five}
use Rattle.dstm_text.proofs.print.push_digits.Goals as goal

pub returns-then-number-lt100-clause-ok : goal.returns-then-number-lt100-clause-ok
returns-then-number-lt100-clause-ok c =
    let text : decimal c.args.number ≡ c.digit-tens.result ∷ c.digit-ones.result ∷ [] =
    rw (c.digit-tens.ensures, c.digit-ones.ensures) (decimal_two c.args.number c.requires c.if-number-lt100.true) in
    subst (λ (ds : List ℕ). OnOk c.extend_from_slice.result (c.extend_from_slice.new.self.items ≡ c.args.out.now.items ++ ds)) (sym text) (search rules)

pub returns-then-number-lt1000-clause-ok : goal.returns-then-number-lt1000-clause-ok
returns-then-number-lt1000-clause-ok c =
    let text : decimal c.args.number ≡ c.digit-hundreds.result ∷ c.digit-tens.result ∷ c.digit-ones.result ∷ [] =
    rw (c.digit-hundreds.ensures, c.digit-tens.ensures, c.digit-ones.ensures) (decimal_three c.args.number c.if-number-lt100.false c.if-number-lt1000.true) in
    subst (λ (ds : List ℕ). OnOk c.extend_from_slice-then-number-lt1000.result (c.extend_from_slice-then-number-lt1000.new.self.items ≡ c.args.out.now.items ++ ds)) (sym text) (search rules)

pub returns-then-number-lt10000-clause-ok : goal.returns-then-number-lt10000-clause-ok
returns-then-number-lt10000-clause-ok c =
    let text : decimal c.args.number ≡ c.digit-thousands.result ∷ c.digit-hundreds.result ∷ c.digit-tens.result ∷ c.digit-ones.result ∷ [] =
    rw (c.digit-thousands.ensures, c.digit-hundreds.ensures, c.digit-tens.ensures, c.digit-ones.ensures) (decimal_four c.args.number c.if-number-lt1000.false c.if-number-lt10000.true) in
    subst (λ (ds : List ℕ). OnOk c.extend_from_slice-then-number-lt10000.result (c.extend_from_slice-then-number-lt10000.new.self.items ≡ c.args.out.now.items ++ ds)) (sym text) (search rules)

pub returns-clause-ok : goal.returns-clause-ok
returns-clause-ok c =
    let text : decimal c.args.number ≡ c.digit.result ∷ c.digit-thousands.result ∷ c.digit-hundreds.result ∷ c.digit-tens.result ∷ c.digit-ones.result ∷ [] =
    rw (c.digit.ensures, c.digit-thousands.ensures, c.digit-hundreds.ensures, c.digit-tens.ensures, c.digit-ones.ensures) (decimal_five c.args.number c.if-number-lt10000.false (omega (arith, c.if-number-ge100000.false))) in
    subst (λ (ds : List ℕ). OnOk c.extend_from_slice-2.result (c.extend_from_slice-2.new.self.items ≡ c.args.out.now.items ++ ds)) (sym text) (search rules)
