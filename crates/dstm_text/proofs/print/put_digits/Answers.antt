use Rattle.dstm_text.proofs.Decimals.{push_five, push_four, push_three, push_two}
use Rattle.dstm_text.proofs.print.put_digits.Goals as goal

pub returns-then-number-lt100-clause-items : goal.returns-then-number-lt100-clause-items
returns-then-number-lt100-clause-items c =
    push_two _ _ _ c.args.number _ _ _ c.last_digit-tenth.ensures.rest c.last_digit-tenth.ensures.digit
    c.last_digit-hundredth.ensures.digit c.requires.least c.if-number-lt100.true
    c.push_reserved.ensures.items c.push_reserved-then-number-lt100.ensures.items

pub returns-then-number-lt1000-clause-items : goal.returns-then-number-lt1000-clause-items
returns-then-number-lt1000-clause-items c =
    push_three _ _ _ _ c.args.number _ _ _ _ _ c.last_digit-tenth.ensures.rest c.last_digit-tenth.ensures.digit
    c.last_digit-hundredth.ensures.rest c.last_digit-hundredth.ensures.digit c.last_digit-thousandth.ensures.digit
    c.if-number-lt100.false c.if-number-lt1000.true c.push_reserved-then-number-lt1000.ensures.items
    c.push_reserved-then-number-lt1000-2.ensures.items c.push_reserved-then-number-lt1000-3.ensures.items

pub returns-then-number-lt10000-clause-items : goal.returns-then-number-lt10000-clause-items
returns-then-number-lt10000-clause-items c =
    push_four _ _ _ _ _ c.args.number _ _ _ _ _ _ _ c.last_digit-tenth.ensures.rest c.last_digit-tenth.ensures.digit
    c.last_digit-hundredth.ensures.rest c.last_digit-hundredth.ensures.digit c.last_digit-thousandth.ensures.rest
    c.last_digit-thousandth.ensures.digit c.last_digit-first.ensures.digit c.if-number-lt1000.false
    c.if-number-lt10000.true c.push_reserved-then-number-lt10000.ensures.items
    c.push_reserved-then-number-lt10000-2.ensures.items c.push_reserved-then-number-lt10000-3.ensures.items
    c.push_reserved-then-number-lt10000-4.ensures.items

pub returns-clause-items : goal.returns-clause-items
returns-clause-items c =
    push_five _ _ _ _ _ _ c.args.number _ _ _ _ _ _ _ _ _ c.last_digit-tenth.ensures.rest c.last_digit-tenth.ensures.digit
    c.last_digit-hundredth.ensures.rest c.last_digit-hundredth.ensures.digit c.last_digit-thousandth.ensures.rest
    c.last_digit-thousandth.ensures.digit c.last_digit-first.ensures.rest c.last_digit-first.ensures.digit c.digit.ensures
    c.if-number-lt10000.false c.requires.most c.push_reserved-2.ensures.items c.push_reserved-3.ensures.items
    c.push_reserved-4.ensures.items c.push_reserved-5.ensures.items c.push_reserved-6.ensures.items
