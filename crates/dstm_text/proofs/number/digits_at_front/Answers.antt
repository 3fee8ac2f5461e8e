use Rattle.std.proofs.Common.{◌≤◌, ◌^◌, arith}
use Rattle.std.proofs.Math.Nat.{pow-le-pow_right}
use Rattle.dstm_text.proofs.FrontLaws.{front_none, front_more}
use Rattle.dstm_text.proofs.number.digits_at_front.Goals as goal

pub loop-end-init : goal.loop-end-init
loop-end-init c = front_none c.args.line.now

pub overflow_mul-number : goal.overflow_mul-number
overflow_mul-number c =
    let small = c.loop-end.invariant.small in
    let below = c.loop-end-test.true in
    let most : 10 ^ c.loop-end.end ≤ 10 ^ 18 = pow-le-pow_right (omega arith) {j = 18} (omega (arith, below, c.min-most.ensures)) in
    omega (arith, small, most)

pub overflow_add-number : goal.overflow_add-number
overflow_add-number c =
    let small = c.loop-end.invariant.small in
    let below = c.loop-end-test.true in
    let most : 10 ^ c.loop-end.end ≤ 10 ^ 18 = pow-le-pow_right (omega arith) {j = 18} (omega (arith, below, c.min-most.ensures)) in
    let digit = c.if-is_ascii_digit.ensures.cases in
    omega (arith, small, most, digit.0, digit.1, c.from.ensures)

pub loop-end-preserved : goal.loop-end-preserved
loop-end-preserved c =
    let digit = c.if-is_ascii_digit.ensures.cases in
    front_more c.args.line.now c.loop-end.end c.loop-end.number c.from.result c.loop-end.invariant digit
    c.from.ensures (omega (arith, c.loop-end-test.true, c.min-most.ensures)) (omega (arith, c.loop-end-test.true, c.min-most.ensures))
