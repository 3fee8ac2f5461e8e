use Rattle.std.proofs.Common.{◌≡◌, ℕ, ◌∙◌, ◌+◌, ◌-◌, ◌<◌, Bool, true, false, length, List, Option, Some, None, take, drop, eqb, ap, subst, sym, arith}
use Rattle.std.proofs.lemmas.List.{take_rest}
use Rattle.std.proofs.lemmas.Bool.{eqb-true, eqb-false}
use Rattle.std.specs.Str.{bytes_eq}
use Rattle.memchr.specs.Find.{IsFirstByte, is_byte}
use Rattle.dstm_text.specs.Lines.{lines_of, line_feed}
use Rattle.dstm_text.proofs.LineSearch.{Split, searched-more, found, found_last, absent_empty, absent_other}
use Rattle.dstm_text.proofs.sections.split_at_line.Goals.{In-Some, In_default}
use Rattle.dstm_text.proofs.sections.split_at_line.Goals as goal

-- what was found in the rest of the text
in_rest : (bytes : List ℕ) (start : ℕ) (result : Option ℕ) →
    IsFirstByte (is_byte line_feed) (take (length bytes - start) (drop start bytes)) result →
    IsFirstByte (is_byte line_feed) (drop start bytes) result
in_rest bytes start result first =
    subst (λ (rest : List ℕ). IsFirstByte (is_byte line_feed) rest result) (take_rest bytes start) first

-- what the comparison of the line tells
of_line : (bytes mark : List ℕ) (start k : ℕ) (answer : Bool) → answer ≡ bytes_eq (take (start + k - start) (drop start bytes)) mark →
    bytes_eq (take k (drop start bytes)) mark ≡ answer
of_line bytes mark start k answer is =
    let same : k ≡ start + k - start = omega arith in
    ap (λ (n : ℕ). bytes_eq (take n (drop start bytes)) mark) same ∙ sym is

-- what the comparison of the rest tells
of_rest : (bytes mark : List ℕ) (start : ℕ) (answer : Bool) →
    answer ≡ bytes_eq (take (length bytes - start) (drop start bytes)) mark → bytes_eq (drop start bytes) mark ≡ answer
of_rest bytes mark start answer is =
    ap (λ (rest : List ℕ). bytes_eq rest mark) (sym (take_rest bytes start)) ∙ sym is

-- a cut, as it is told
cut : (split : Split) (front : List (List ℕ)) (back : Option (List (List ℕ))) → split ≡ (front, back) →
    record { before : front ≡ split.0; behind : back ≡ split.1 }
cut split front back is = record { before = sym (ap (λ (s : Split). s.0) is); behind = sym (ap (λ (s : Split). s.1) is) }

-- no line ends behind the place that the search has come to
no_more : (c : In_default) → IsFirstByte (is_byte line_feed) (drop c.loop-length.start c.args.bytes.now) None
no_more c = in_rest c.args.bytes.now c.loop-length.start None c.in_default.ensures

-- where the next line ends
ends_at : (c : In-Some) →
    IsFirstByte (is_byte line_feed) (drop c.loop-length.start c.args.bytes.now) (Some c.in-Some.length)
ends_at c = in_rest c.args.bytes.now c.loop-length.start (Some c.in-Some.length) c.in-Some.ensures

pub loop-length-preserved : goal.loop-length-preserved
loop-length-preserved c =
    searched-more c.args.bytes.now c.args.mark.now c.loop-length.start c.in-Some.length c.loop-length.invariant
    (ends_at (goal.at.loop-length-preserved c).In-Some)
    (of_line c.args.bytes.now c.args.mark.now c.loop-length.start c.in-Some.length false c.if-eq.ensures)

pub returns-then-eq : goal.returns-then-eq
returns-then-eq c =
    let start = c.loop-length.start in
    let k = c.in-Some.length in
    let is = found c.args.bytes.now c.args.mark.now start k c.loop-length.invariant
    (ends_at (goal.at.returns-then-eq c).In-Some)
    (of_line c.args.bytes.now c.args.mark.now start k true c.if-eq.ensures) in
    record {
      before = sym (ap (λ (s : Split). s.0) is);
      behind = ap (λ (rest : List ℕ). Some (lines_of rest)) (take_rest c.args.bytes.now (start + k + 1))
          ∙ sym (ap (λ (s : Split). s.1) is);
    }

pub returns-then-is_empty : goal.returns-then-is_empty
returns-then-is_empty c =
    let bytes = c.args.bytes.now in
    let start = c.loop-length.start in
    let empty : length (drop start bytes) ≡ 0 =
    sym (ap length (take_rest bytes start))
    ∙ eqb-true (length (take (length bytes - start) (drop start bytes))) 0 (sym c.if-is_empty.ensures) in
    cut _ _ _ (absent_empty bytes c.args.mark.now start c.loop-length.invariant
    (no_more (goal.at.returns-then-is_empty c).In_default) empty)

-- the rest is not empty
is_some : (bytes : List ℕ) (start : ℕ) → false ≡ eqb (length (take (length bytes - start) (drop start bytes))) 0 →
    0 < length (drop start bytes)
is_some bytes start is =
    omega (arith, ap length (take_rest bytes start), eqb-false (length (take (length bytes - start) (drop start bytes))) 0 (sym is))

pub returns-then-eq-2 : goal.returns-then-eq-2
returns-then-eq-2 c =
    cut _ _ _ (found_last c.args.bytes.now c.args.mark.now c.loop-length.start c.loop-length.invariant
    (no_more (goal.at.returns-then-eq-2 c).In_default)
    (is_some c.args.bytes.now c.loop-length.start c.if-is_empty.ensures)
    (of_rest c.args.bytes.now c.args.mark.now c.loop-length.start true c.if-eq-2.ensures))

pub returns : goal.returns
returns c =
    cut _ _ _ (absent_other c.args.bytes.now c.args.mark.now c.loop-length.start c.loop-length.invariant
    (no_more (goal.at.returns c).In_default)
    (is_some c.args.bytes.now c.loop-length.start c.if-is_empty.ensures)
    (of_rest c.args.bytes.now c.args.mark.now c.loop-length.start false c.if-eq-2.ensures))
