-- Words and lines as the pieces of what is printed.
use Rattle.std.proofs.Common.{◌≡◌, ℕ, ◌<◌, ◌≤◌, ◌^◌, Bool, true, false, not, eqb, leb, List, [], ◌∷◌}
use Rattle.std.proofs.Common.{◌++◌, Some, None, decimal, refl, ap, sym, ◌∙◌, append_assoc}
use Rattle.std.proofs.Common.{arith, ⊎_elim}
use Rattle.std.specs.List.{list_all}
use Rattle.std.specs.Char.{is_ascii_digit}
use Rattle.std.specs.Str.{bytes_eq, all_ascii_digits}
use Rattle.std.proofs.lemmas.Bool.{false≢true, and_parts, and_from, and_left, not-true, not_from_false}
use Rattle.std.proofs.lemmas.Bool.{false_from_ne_true, eqb-true, cases_Bool, cond-true, cond-false, le-leb}
use Rattle.std.proofs.lemmas.List.Folds.{list_all-append}
use Rattle.std.proofs.lemmas.List.Sums.{AllPass-from_list_all}
use Rattle.std.specs.Str.Parse.{digits_value}
use Rattle.dstm_text.specs.Lines.{pieces, lines_of}
use Rattle.dstm_text.specs.Number.{is_plain, number_of}
use Rattle.dstm_text.proofs.LineLaws.{IsFreeOf, pieces-append, pieces-one, lines_of-append}
use Rattle.dstm_report.specs.declared.draft.TheConstants.{MAX_NUMBER}
use Rattle.dstm_report.specs.Parser.{number_in, up_to}
use Rattle.dstm_report.specs.Text.{line}

-- ---- bytes without a separator

abbrev pub is_free : ℕ → List ℕ → Bool
is_free c word = list_all (λ b. not (eqb b c)) word

pub free-append : (c : ℕ) (a b : List ℕ) → is_free c a ≡ true → is_free c b ≡ true → is_free c (a ++ b) ≡ true
free-append c a b left right = list_all-append (λ x. not (eqb x c)) a b ∙ and_from _ _ left right

free_of : (c : ℕ) (word : List ℕ) → is_free c word ≡ true → IsFreeOf c word
free_of c word free k d lt = not-true _ (AllPass-from_list_all (λ b. not (eqb b c)) word free k d lt)

-- a word ends at the separator
pub pieces_word : (c : ℕ) (word rest : List ℕ) → is_free c word ≡ true →
    pieces c (word ++ c ∷ rest) ≡ word ∷ pieces c rest
pieces_word c word rest free = pieces-append c word rest (free_of c word free)

pub pieces_last : (c : ℕ) (word : List ℕ) → is_free c word ≡ true → pieces c word ≡ word ∷ []
pieces_last c word free = pieces-one c word (free_of c word free)

-- a line comes off the front of a text
pub lines_of-line : (text rest : List ℕ) → is_free 10 text ≡ true → lines_of (line text ++ rest) ≡ text ∷ lines_of rest
lines_of-line text rest free =
    ap lines_of (append_assoc text (10 ∷ []) rest) ∙ lines_of-append text rest (free_of 10 text free)

-- ---- numbers

-- what is printed is read
abbrev pub Printed : Type 0
Printed = (n : ℕ) → n < 2 ^ 64 → number_of (decimal n) ≡ Some n

plain_digits : (word : List ℕ) → is_plain word ≡ true → all_ascii_digits word ≡ true
plain_digits [] plain = refl
plain_digits (d ∷ ds) plain = (and_parts (all_ascii_digits (d ∷ ds)) _ plain).0

pub decimal_digits : Printed → (n : ℕ) → n ≤ MAX_NUMBER → all_ascii_digits (decimal n) ≡ true
decimal_digits printed n small =
    let word = decimal n in
    ⊎_elim
    (λ plain. plain_digits word plain)
    (λ no.
    let e : None ≡ Some n =
    sym (cond-false (is_plain word) (Some (digits_value 10 word)) None no) ∙ printed n (omega arith) in
    absurd (let never : ⊥ = cc in never))
    (cases_Bool (is_plain word))

digits_free : (c : ℕ) (word : List ℕ) → is_ascii_digit c ≡ false → all_ascii_digits word ≡ true → is_free c word ≡ true
digits_free c [] none all = refl
digits_free c (d ∷ word) none all =
    let parts = and_parts (is_ascii_digit d) (all_ascii_digits word) all in
    and_from _ _
    (not_from_false _ (false_from_ne_true (eqb d c)
    (λ same. false≢true (sym none ∙ ap is_ascii_digit (sym (eqb-true d c same)) ∙ parts.0))))
    (digits_free c word none parts.1)

pub decimal_free : Printed → (c n : ℕ) → is_ascii_digit c ≡ false → n ≤ MAX_NUMBER → is_free c (decimal n) ≡ true
decimal_free printed c n none small = digits_free c (decimal n) none (decimal_digits printed n small)

digits_ne : (word : List ℕ) (x : ℕ) (xs : List ℕ) → is_ascii_digit x ≡ false → all_ascii_digits word ≡ true →
    bytes_eq word (x ∷ xs) ≡ false
digits_ne [] x xs none all = refl
digits_ne (d ∷ word) x xs none all =
    let parts = and_parts (is_ascii_digit d) (all_ascii_digits word) all in
    and_left _ _ (false_from_ne_true (eqb d x)
    (λ same. false≢true (sym none ∙ ap is_ascii_digit (sym (eqb-true d x same)) ∙ parts.0)))

-- a number is no word that begins with another byte than a digit
pub decimal_ne : Printed → (n x : ℕ) (xs : List ℕ) → is_ascii_digit x ≡ false → n ≤ MAX_NUMBER →
    bytes_eq (decimal n) (x ∷ xs) ≡ false
decimal_ne printed n x xs none small = digits_ne (decimal n) x xs none (decimal_digits printed n small)

pub number_in-decimal : Printed → (most n : ℕ) → n ≤ most → most ≤ MAX_NUMBER → number_in most (decimal n) ≡ Some n
number_in-decimal printed most n small range =
    ap (up_to most) (printed n (omega arith)) ∙ cond-true (leb n most) (Some n) None (le-leb n most small)
