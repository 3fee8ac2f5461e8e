use Rattle.std.proofs.Common.{◌<◌, ◌≤◌, ◌^◌, arith}
use Rattle.std.proofs.Math.Nat.{pow-le-pow_right}
use Rattle.dstm_text.proofs.number.short_value.Goals as goal

pub overflow_mul-number : goal.overflow_mul-number
overflow_mul-number c =
    let most : 10 ^ c.loop-byte.byte-index ≤ 10 ^ 18 = pow-le-pow_right (omega arith) {j = 18} (omega arith) in
    omega arith

pub overflow_add-number : goal.overflow_add-number
overflow_add-number c =
    let most : 10 ^ c.loop-byte.byte-index ≤ 10 ^ 18 = pow-le-pow_right (omega arith) {j = 18} (omega arith) in
    let small : c.loop-byte.number < 10 ^ 18 = omega arith in
    let digit : c.from.result < 256 = omega (arith, c.from.ensures) in
    omega arith
