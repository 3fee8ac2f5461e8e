-- What a reading that succeeded has read.
use Rattle.std.proofs.Common.{◌≡◌, ℕ, ◌^◌, ◌<◌, ◌≤◌, Bool, true, false, ◌&&◌, List, [], ◌∷◌, Option, Some, None, Result}
use Rattle.std.proofs.Common.{Ok, Err, cond, leb, decimal, refl, sym, ap, ◌∙◌, arith}
use Rattle.std.specs.{Str.bytes_eq, List.find, Option.option_and_then}
use Rattle.std.proofs.lemmas.{Bool.and_parts, Bool.leb-true, Bool.le-leb, Bool.Decides.nat_tests}
use Rattle.std.proofs.lemmas.Slice.Eq.{bytes_eq-Decides}
use Rattle.dstm_text.proofs.NumberLaws.{decimal-number_of}
use Rattle.dstm_text.specs.Results.{◌>>=◌}
use Rattle.dstm_workload.specs.{declared.refused.Why.Why, declared.word.Word.Word}
use Rattle.dstm_workload.specs.declared.word.Word.TheVariants.{Workers}
use Rattle.dstm_workload.specs.Words.{spelling, since, words, word_spelled, word_of}
use Rattle.dstm_workload.specs.Fields.{number_at, operand_at}

pub bind_ok : {A B : Type 0} (r : Result A Why) (f : A → Result B Why) (y : B) → (r >>= f) ≡ Ok y →
    (x : A) × (r ≡ Ok x) × (f x ≡ Ok y)
bind_ok (Ok x) f y is = (x, refl, is)
bind_ok (Err why) f y is = cc

pub same_Ok : {X E : Type 0} (x y : X) → ◌≡◌ {A = Result X E} (Ok x) (Ok y) → x ≡ y
same_Ok x y is = cc

-- a number that was read: its range and its field
pub number_ok : (least most : ℕ) → most < 2 ^ 64 → (fields : List (List ℕ)) (x : ℕ × List (List ℕ)) →
    number_at least most fields ≡ Ok x → (least ≤ x.0) × (x.0 ≤ most) × (fields ≡ decimal x.0 ∷ x.1)
number_ok least most small fields x is = grind (arith, nat_tests, decimal-number_of)

-- the same, where a semicolon ends it
pub numeral_ok : (ended : Bool) (least most : ℕ) → most < 2 ^ 64 → (fields : List (List ℕ)) (x : ℕ × List (List ℕ)) →
    cond ended (operand_at least most fields) (number_at least most fields) ≡ Ok x →
    (least ≤ x.0) × (x.0 ≤ most) × (fields ≡ decimal x.0 ∷ x.1)
numeral_ok true least most small [] x is = cc
numeral_ok true least most small (field ∷ fields) x is = grind (arith, number_ok least most small (field ∷ fields) x)
numeral_ok false least most small fields x is = number_ok least most small fields x is

-- ---- words

found : {A : Type 0} (test : A → Bool) (xs : List A) (x : A) → find test xs ≡ Some x → test x ≡ true
found test [] x is = cc
found test (y ∷ ys) x is = grind (arith, found test ys x)

pub word_ok : (version : ℕ) (field : List ℕ) (w : Word) → word_of version field ≡ Some w →
    (since w ≤ version) × (field ≡ spelling w)
unfolding word_of
word_ok version field w is =
    let both =
    and_parts (bytes_eq (spelling w) field) (leb (since w) version)
    (found (λ word. bytes_eq (spelling word) field && leb (since word) version) words w is) in
    (leb-true (since w) version both.1, sym ((bytes_eq-Decides (spelling w) field).0 both.0))

pub spelled_is : (field : List ℕ) (w : Word) → word_spelled field ≡ Some w → field ≡ spelling w
unfolding word_spelled
spelled_is field w is =
    sym ((bytes_eq-Decides (spelling w) field).0 (found (λ word. bytes_eq (spelling word) field) words w is))

-- a version has a word from its first version on
pub word_by : (version : ℕ) (w : Word) → word_of version (spelling w) ≡ cond (leb (since w) version) (Some w) None
unfolding word_of
word_by version Workers = refl
word_by version other = refl

none_of : {A : Type 0} (p q : A → Bool) (xs : List A) → find p xs ≡ None → find (λ x. p x && q x) xs ≡ None
none_of p q [] is = refl
none_of p q (x ∷ xs) is = grind (arith, none_of p q xs)

-- the word of a field, by how the field is spelled
pub word_from : (version : ℕ) (field : List ℕ) (o : Option Word) → word_spelled field ≡ o →
    word_of version field ≡ option_and_then (λ w. cond (leb (since w) version) (Some w) None) o
unfolding word_of word_spelled
word_from version field None is =
    none_of (λ word. bytes_eq (spelling word) field) (λ word. leb (since word) version) words is
word_from version field (Some w) is = ap (word_of version) (spelled_is field w is) ∙ word_by version w

pub word_again : (version : ℕ) (w : Word) → since w ≤ version → word_of version (spelling w) ≡ Some w
word_again version w has = rw (word_by version w, le-leb (since w) version has)
