-- Numbers at the front of a line.
use Rattle.std.proofs.Common.{◌≡◌, ℕ, zero, suc, subst, ◌+◌, ◌-◌, ◌*◌, ◌<◌, ◌≤◌, true, List, [], ◌∷◌, length, take, drop, get_or, Some, refl, sym, ap, ◌∙◌, inl, inr, arith}
use Rattle.std.proofs.lemmas.Bool.{and_from, cases_lt, eq-eqb, eqb-true}
use Rattle.std.proofs.lemmas.Bool.Decides.{nat_tests}
use Rattle.std.proofs.lemmas.List.{get_or-take, length-take-le, take_all}
use Rattle.std.proofs.lemmas.Int.Digits.{digits_value_more}
use Rattle.std.proofs.lemmas.Grind.{pow_more}
use Rattle.std.specs.Int.{IsInRange}
use Rattle.std.specs.Char.{is_ascii_digit}
use Rattle.std.specs.Str.{all_ascii_digits}
use Rattle.std.specs.Str.Parse.{digits_value}
use Rattle.memchr.specs.Find.{NoneBefore, Passes, is_byte}
use Rattle.dstm_text.specs.Lines.{fields_of, non_empty, pieces, space}
use Rattle.dstm_text.specs.Number.{AreAtFront, IsNumberBefore, StandsBeforeSpace, StandsBehind, number_of}
use Rattle.dstm_text.proofs.LineLaws.{kept, pieces_at, pieces_none}
use Rattle.dstm_text.proofs.NumberLaws.{digit_value_is, number_is, plain_from}

pub front_none : (line : List ℕ) → AreAtFront line 0 0
front_none line = record {
  within = omega arith;
  digits = λ k below. absurd (omega (arith, below));
  value = refl;
  small = omega arith;
  few = omega arith;
}

pub front_more : (line : List ℕ) (count number digit : ℕ) → AreAtFront line count number →
    IsInRange 48 57 (get_or line count 0) → digit ≡ get_or line count 0 - 48 → count < length line → count < 19 →
    AreAtFront line (count + 1) (number * 10 + digit)
front_more line count number digit front here is inside few = record {
  within = omega (arith, inside);
  digits = λ k below.
      elim (cases_lt k count) [
        | inl before ↦ front.digits k before
        | inr past ↦
            let same : k ≡ count = omega (arith, below, past) in
            subst (λ (n : ℕ). IsInRange 48 57 (get_or line n 0)) (sym same) here
      ];
  value =
      ap (λ n. n * 10 + digit) front.value ∙ ap (λ d. digits_value 10 (take count line) * 10 + d) is
      ∙ sym (digits_value_more 10 line count inside ∙ ap (λ d. digits_value 10 (take count line) * 10 + d) (digit_value_is _ here));
  small =
      omega (arith, pow_more 10 count, front.small, is, here.0, here.1);
  few = omega (arith, few);
}

is_digit : (c : ℕ) → IsInRange 48 57 c → is_ascii_digit c ≡ true
is_digit c range = grind (arith, nat_tests)

are_digits : (line : List ℕ) (count : ℕ) → count ≤ length line → ((k : ℕ) → k < count → IsInRange 48 57 (get_or line k 0)) →
    all_ascii_digits (take count line) ≡ true
are_digits line zero within digits = refl
are_digits [] (suc n) within digits = absurd (omega (arith, within))
are_digits (c ∷ cs) (suc n) within digits =
    and_from _ _ (is_digit c (digits 0 (omega arith)))
    (are_digits cs n (omega (arith, within)) (λ k below. digits (suc k) (omega (arith, below))))

pub front_spelled : (line : List ℕ) (count number : ℕ) → AreAtFront line count number → 0 < count →
    (get_or line 0 0 ≡ 48 → count ≡ 1) → number_of (take count line) ≡ Some number
front_spelled line count number front some plain =
    let long = length-take-le count line front.within in
    number_is (take count line)
    (plain_from (take count line) (are_digits line count front.within front.digits) (omega (arith, long, some))
    (λ zero. long ∙ plain (sym (get_or-take count line 0 0 some) ∙ zero)))
    ∙ ap (λ n. Some n) (sym front.value)

-- none of its bytes is a space
clear : (line : List ℕ) (place number k : ℕ) → StandsBeforeSpace line place number → k < place → ¬ Passes (is_byte space) line k
clear line place number k stands below is =
    let range = stands.front.digits k below in
    let same = eqb-true (get_or line k 0) space is in
    omega (arith, range.0, range.1, same)

-- it is the first field, and the others are those of what stands behind it
pub fields_behind : (line : List ℕ) (place number : ℕ) (rest : List ℕ) → StandsBeforeSpace line place number →
    StandsBehind line place rest → fields_of line ≡ take place line ∷ fields_of rest
fields_behind line place number rest stands (inl end) =
    let whole : take place line ≡ line = take_all place line (omega (arith, end.0)) in
    let one = pieces_none space line (λ k low below. clear line place number k stands (omega (arith, below, end.0))) in
    ap non_empty one ∙ kept line [] (omega (arith, stands.some, end.0))
    ∙ ap (λ (l : List ℕ). l ∷ []) (sym whole) ∙ ap (λ (r : List ℕ). take place line ∷ fields_of r) (sym end.1)
fields_behind line place number rest stands (inr cut) =
    let first : NoneBefore (Passes (is_byte space) line) 0 (length line) place =
    record { low = omega arith; high = cut.0; before = λ k low below. clear line place number k stands below } in
    let long = length-take-le place line stands.front.within in
    ap non_empty (pieces_at space line place first (eq-eqb (get_or line place 0) space cut.1.0))
    ∙ kept (take place line) (pieces space (drop (place + 1) line)) (omega (arith, stands.some, long))
    ∙ ap (λ (r : List ℕ). take place line ∷ fields_of r) (sym cut.1.1)

-- a space, if the line does not end there
pub behind_is_space : (line : List ℕ) (place : ℕ) (rest : List ℕ) → StandsBehind line place rest →
    place < length line → get_or line place 0 ≡ space
behind_is_space line place rest (inl end) inside = absurd (omega (arith, end.0, inside))
behind_is_space line place rest (inr cut) inside = cut.1.0

-- a digit before a space
pub one_digit : (digit : ℕ) (rest : List ℕ) → IsInRange 48 57 digit →
    IsNumberBefore (digit ∷ space ∷ rest) (digit - 48) rest
one_digit digit rest range =
    let line : List ℕ = digit ∷ space ∷ rest in
    let value : 0 * 10 + (digit - 48) ≡ digit - 48 = omega arith in
    let front : AreAtFront line 1 (digit - 48) =
    subst (λ (n : ℕ). AreAtFront line 1 n) value
    (front_more line 0 0 (digit - 48) (front_none line) range refl (omega arith) (omega arith)) in (
      1,
      (
        record {
          front = front;
          some = omega arith;
          behind = λ inside. refl;
          spelled = front_spelled line 1 (digit - 48) front (omega arith) (λ zero. refl);
        },
        inr (omega arith, (refl, refl)),
      ),
    )
