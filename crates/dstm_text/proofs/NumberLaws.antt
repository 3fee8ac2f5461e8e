-- Plain decimals and std's: each number below 2^64 has one spelling.
use Rattle.std.proofs.Common.{◌≡◌, ℕ, ◌+◌, ◌-◌, ◌*◌, ◌^◌, ◌<◌, ◌≤◌, true, not, List, [], ◌∷◌, length}
use Rattle.std.proofs.Common.{get_or, take, Some, None, eqb, decimal, refl, sym, ap, ◌∙◌, arith, ⊎_elim}
use Rattle.std.proofs.lemmas.Bool.{false≢true, eqb-false, and_parts, and_from, or_cases, or_left, or_right}
use Rattle.std.proofs.lemmas.Bool.{not-true, not_from_false, ne_eqb, cases_eq, cases_Bool, cond-true, cond-false}
use Rattle.std.proofs.lemmas.Bool.Decides.{nat_tests}
use Rattle.std.proofs.lemmas.Str.Parse.{IsNumeralModel, numerals_by_value}
use Rattle.std.proofs.lemmas.Str.Parse.{tells_all_ascii_digits, digit_at, digits_value-take-le}
use Rattle.std.proofs.lemmas.Fmt.{digits_decimal, digits_value-decimal, decimal_nonempty}
use Rattle.std.proofs.lemmas.Fmt.{first_decimal, decimal_digit, decimal-digits_value}
use Rattle.std.proofs.lemmas.Int.Digits.{digits_value_more}
use Rattle.std.specs.Char.{digit_value}
use Rattle.std.specs.Int.{IsInRange}
use Rattle.std.specs.Str.{all_ascii_digits}
use Rattle.std.specs.Str.Parse.{digits_value}
use Rattle.dstm_text.specs.Number.{is_plain, number_of}

model : IsNumeralModel (λ ds. all_ascii_digits ds ≡ true) (digits_value 10)
model = numerals_by_value (λ ds. all_ascii_digits ds ≡ true) tells_all_ascii_digits

-- the value of a digit's code
pub digit_value_is : (c : ℕ) → IsInRange 48 57 c → digit_value c ≡ c - 48
digit_value_is c h = grind (arith, nat_tests)

-- the value one digit on
pub value_more : (ds : List ℕ) (i : ℕ) → all_ascii_digits ds ≡ true → i < length ds →
    (digits_value 10 (take (i + 1) ds) ≡ digits_value 10 (take i ds) * 10 + (get_or ds i 0 - 48))
    × (48 ≤ get_or ds i 0) × (get_or ds i 0 ≤ 57)
value_more ds i all lt =
    let range = digit_at ds i (model.to ds all) lt in (
      digits_value_more 10 ds i lt ∙ ap (λ d. digits_value 10 (take i ds) * 10 + d) (digit_value_is _ range),
      range.0,
      range.1,
    )

-- no front has a greater value
pub value_take_le : (ds : List ℕ) (i : ℕ) → digits_value 10 (take i ds) ≤ digits_value 10 ds
value_take_le ds i = digits_value-take-le 10 ds i (omega arith)

-- what it takes to be plain
pub plain_from : (ds : List ℕ) → all_ascii_digits ds ≡ true → 0 < length ds →
    (get_or ds 0 0 ≡ 48 → length ds ≡ 1) → is_plain ds ≡ true
plain_from [] all some one = absurd (omega arith)
plain_from (d ∷ []) all some one = and_from _ _ all (or_right (not (eqb d 48)) _ refl)
plain_from (d ∷ e ∷ ds) all some one =
    and_from _ _ all (or_left _ _ (not_from_false _ (ne_eqb d 48 (λ zero. let two = one zero in absurd (omega arith)))))

-- and what it gives
pub plain_parts : (ds : List ℕ) → is_plain ds ≡ true →
    (all_ascii_digits ds ≡ true) × (0 < length ds) × (get_or ds 0 0 ≡ 48 → length ds ≡ 1)
plain_parts [] plain = absurd (false≢true plain)
plain_parts (d ∷ []) plain = ((and_parts _ _ plain).0, omega arith, λ zero. omega arith)
plain_parts (d ∷ e ∷ ds) plain =
    let parts = and_parts (all_ascii_digits (d ∷ e ∷ ds)) _ plain in (
      parts.0,
      omega arith,
      λ zero. ⊎_elim (λ other. absurd (eqb-false d 48 (not-true _ other) zero))
          (λ no. absurd (false≢true no)) (or_cases _ _ parts.1),
    )

pub number_is : (ds : List ℕ) → is_plain ds ≡ true → number_of ds ≡ Some (digits_value 10 ds)
number_is ds plain = cond-true (is_plain ds) _ _ plain

-- what is printed is read
pub number_of-decimal : (n : ℕ) → n < 2 ^ 64 → number_of (decimal n) ≡ Some n
number_of-decimal n lt =
    let one : get_or (decimal n) 0 0 ≡ 48 → length (decimal n) ≡ 1 = λ zero.
    ⊎_elim (λ is. ap (λ m. length (decimal m)) is ∙ ap length (decimal_digit 0 (omega arith)))
    (λ more. absurd (let big = first_decimal n (omega arith) lt in omega arith)) (cases_eq n 0) in
    number_is (decimal n) (plain_from (decimal n) (digits_decimal model n lt) (decimal_nonempty n lt) one)
    ∙ ap (λ m. Some m) (digits_value-decimal model n lt)

-- and nothing else is read as that number
pub decimal-number_of : (ds : List ℕ) (n : ℕ) → n < 2 ^ 64 → number_of ds ≡ Some n → ds ≡ decimal n
decimal-number_of ds n lt is =
    ⊎_elim (λ plain.
    let parts = plain_parts ds plain in
    let value : digits_value 10 ds ≡ n = let e = sym (number_is ds plain) ∙ is in cc in
    sym (decimal-digits_value model ds parts.0 parts.1 parts.2 (omega arith)) ∙ ap decimal value)
    (λ other. let e : None ≡ Some n = sym (cond-false (is_plain ds) (Some (digits_value 10 ds)) None other)
    ∙ is in absurd (let no : ⊥ = cc in no))
    (cases_Bool (is_plain ds))

-- what is printed are digits, at least one
pub digits-decimal : (n : ℕ) → n < 2 ^ 64 → (all_ascii_digits (decimal n) ≡ true) × (0 < length (decimal n))
digits-decimal n lt = (digits_decimal model n lt, decimal_nonempty n lt)
