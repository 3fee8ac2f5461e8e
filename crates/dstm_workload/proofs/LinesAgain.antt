-- The lines and the fields of a text that was written.
use Rattle.std.proofs.Common.{◌≡◌, ℕ, ◌^◌, ◌<◌, ◌≤◌, Bool, true, false, ◌&&◌, List, [], ◌∷◌, ◌++◌, length, map, Ok}
use Rattle.std.proofs.Common.{codes, decimal, cond, leb, eqb, refl, sym, ap, ◌∙◌, arith}
use Rattle.std.specs.{Char.is_ascii_digit, List.AllByRecursion, List.list_all, Str.bytes_eq}
use Rattle.std.proofs.lemmas.{Bool.false_from_ne_true, Bool.Decides.nat_tests, Slice.Eq.bytes_eq-Decides}
use Rattle.std.proofs.lemmas.{List.append_assoc, List.append-nil, List.Elements.All-weaker}
use Rattle.std.proofs.lemmas.{List.Sums.AllPass-from_list_all, List.Sums.list_all-from_AllPass}
use Rattle.std.proofs.lemmas.{List.Concat.flat_map-append, List.Folds.list_all-append}
use Rattle.dstm_text.specs.{Lines.space, Lines.line_feed, Lines.lines_of, Lines.fields_of, Number.number_of}
use Rattle.dstm_text.proofs.LineLaws.{IsFreeOf, lines_of-append, fields_of-append, fields_of-one}
use Rattle.dstm_text.proofs.NumberLaws.{digits-decimal, number_of-decimal}
use Rattle.dstm_workload.specs.Fields.{number_at, operand_at}
use Rattle.dstm_workload.specs.Entries.{is_printable}
use Rattle.dstm_workload.specs.Writing.{spaced, joined, lined}

-- ---- fields

-- a byte that a field may hold
abbrev pub is_solid : ℕ → Bool
is_solid b = leb 33 b && leb b 126

-- a field: at least one such byte, and no other
abbrev pub IsField : List ℕ → Type 0
IsField field = (0 < length field) × (list_all is_solid field ≡ true)

-- what passes one test passes another
all_pass : (p q : ℕ → Bool) → ((b : ℕ) → p b ≡ true → q b ≡ true) → (bs : List ℕ) → list_all p bs ≡ true →
    list_all q bs ≡ true
all_pass p q go bs all =
    list_all-from_AllPass q bs
    (All-weaker (λ b. p b ≡ true) (λ b. q b ≡ true) go bs (AllPass-from_list_all p bs all))

free_of : (c : ℕ) (p : ℕ → Bool) → ((b : ℕ) → p b ≡ true → eqb b c ≡ false) → (bs : List ℕ) → list_all p bs ≡ true →
    IsFreeOf c bs
free_of c p go bs all =
    All-weaker (λ b. p b ≡ true) (λ b. eqb b c ≡ false) go bs (AllPass-from_list_all p bs all)

-- what one test of a byte says of another
solid : (b : ℕ) → (is_ascii_digit b ≡ true → is_solid b ≡ true)
    × (is_solid b ≡ true → (is_printable b ≡ true) × (eqb b space ≡ false))
    × (is_printable b ≡ true → eqb b line_feed ≡ false)
solid b = grind (arith, nat_tests)

pub decimal_is_field : (n : ℕ) → n < 2 ^ 64 → IsField (decimal n)
decimal_is_field n lt =
    let digits = digits-decimal n lt in
    (digits.1, all_pass is_ascii_digit is_solid (λ b. (solid b).0) (decimal n) digits.0)

field_is_free : (field : List ℕ) → IsField field → IsFreeOf space field
field_is_free field h = free_of space is_solid (λ b is. ((solid b).1 is).1) field h.1

pub all_both : {A : Type 0} (P : A → Type 0) (xs ys : List A) → AllByRecursion P xs → AllByRecursion P ys →
    AllByRecursion P (xs ++ ys)
all_both P [] ys left right = right
all_both P (x ∷ xs) ys left right = (left.0, all_both P xs ys left.1 right)

-- ---- a line

pub fields_of-joined : (fields : List (List ℕ)) → AllByRecursion IsField fields → fields_of (joined fields) ≡ fields
fields_of-joined [] h = refl
fields_of-joined (first ∷ []) h = rw (append-nil first) (fields_of-one first (field_is_free first h.0) h.0.0)
fields_of-joined (first ∷ second ∷ fields) h =
    fields_of-append first (joined (second ∷ fields)) (field_is_free first h.0) h.0.0
    ∙ ap (λ (fs : List (List ℕ)). first ∷ fs) (fields_of-joined (second ∷ fields) h.1)

spaced_printable : (fields : List (List ℕ)) → AllByRecursion IsField fields →
    list_all is_printable (spaced fields) ≡ true
spaced_printable [] h = refl
spaced_printable (field ∷ fields) h =
    let this = all_pass is_solid is_printable (λ b is. ((solid b).1 is).0) field h.0.1 in
    rw (list_all-append is_printable field (spaced fields), this, spaced_printable fields h.1)

pub joined_printable : (fields : List (List ℕ)) → AllByRecursion IsField fields →
    list_all is_printable (joined fields) ≡ true
joined_printable [] h = refl
joined_printable (field ∷ fields) h = spaced_printable (field ∷ fields) h

pub lined-append : (xs ys : List (List (List ℕ))) → lined (xs ++ ys) ≡ lined xs ++ lined ys
lined-append xs ys = flat_map-append (λ (fields : List (List ℕ)). joined fields ++ line_feed ∷ []) xs ys

-- with what stands behind them
pub lines_of-lined-then : (lines : List (List (List ℕ))) (rest : List ℕ) →
    AllByRecursion (AllByRecursion IsField) lines → lines_of (lined lines ++ rest) ≡ map joined lines ++ lines_of rest
lines_of-lined-then [] rest h = refl
lines_of-lined-then (fields ∷ lines) rest h =
    let line : List ℕ = joined fields in
    let free = free_of line_feed is_printable (λ b. (solid b).2) line (joined_printable fields h.0) in
    rw (
      append_assoc (line ++ line_feed ∷ []) (lined lines) rest,
      append_assoc line (line_feed ∷ []) (lined lines ++ rest),
      lines_of-append line (lined lines ++ rest) free,
      lines_of-lined-then lines rest h.1,
    )

pub lines_of-lined : (lines : List (List (List ℕ))) → AllByRecursion (AllByRecursion IsField) lines →
    lines_of (lined lines) ≡ map joined lines
lines_of-lined lines h =
    ap lines_of (sym (append-nil (lined lines))) ∙ lines_of-lined-then lines [] h ∙ append-nil (map joined lines)

-- ---- numbers

pub number_again : (least most n : ℕ) (rest : List (List ℕ)) → n < 2 ^ 64 → least ≤ n → n ≤ most →
    number_at least most (decimal n ∷ rest) ≡ Ok (n, rest)
number_again least most n rest small low high = grind (arith, nat_tests, number_of-decimal)

not_semicolon : (n : ℕ) → n < 2 ^ 64 → bytes_eq (decimal n) (codes ";") ≡ false
not_semicolon n small = false_from_ne_true _ (λ same.
    let is = ap number_of ((bytes_eq-Decides (decimal n) (codes ";")).0 same) in cc (is, number_of-decimal n small))

-- the same, where a semicolon ends it
pub numeral_again : (ended : Bool) (least most n : ℕ) (rest : List (List ℕ)) → n < 2 ^ 64 → least ≤ n → n ≤ most →
    cond ended (operand_at least most (decimal n ∷ rest)) (number_at least most (decimal n ∷ rest)) ≡ Ok (n, rest)
numeral_again true least most n rest small low high =
    rw (not_semicolon n small) (number_again least most n rest small low high)
numeral_again false least most n rest small low high = number_again least most n rest small low high
