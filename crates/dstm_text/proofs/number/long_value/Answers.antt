use Rattle.std.proofs.Common.{◌+◌, ◌^◌, ◌<◌, sym, subst, Option, SomeIff, ℕ, arith}
use Rattle.std.specs.Str.Parse.{digits_value}
use Rattle.dstm_text.proofs.NumberLaws.{value_more, value_take_le}
use Rattle.dstm_text.proofs.number.long_value.Goals as goal

pub returns-in_err-number : goal.returns-in_err-number
returns-in_err-number c =
    let ds = c.args.digits.now in
    let i = c.loop-digit.digit-index in
    let more = value_more ds i c.requires (omega arith) in
    let whole = value_take_le ds (i + 1) in
    let so_far = c.loop-digit.invariant.value in
    let SpellsIt : Option ℕ → Type 0 = λ r. SomeIff r (digits_value 10 ds < 2 ^ 64) (digits_value 10 ds) in
    subst SpellsIt (sym c.from_residual.ensures)
    (λ small. c.in_err-number.ensures (omega (arith, more.0, whole, so_far)))

pub loop-digit-preserved : goal.loop-digit-preserved
loop-digit-preserved c =
    let more = value_more c.args.digits.now c.loop-digit.digit-index c.requires (omega arith) in
    let longer = c.in_ok-number.ensures in
    let so_far = c.loop-digit.invariant.value in
    record { value = omega (arith, more.0, longer, so_far); small = omega (arith, longer) }
