-- A field that was read as the number that it spells.
use Rattle.std.proofs.Common.{◌≡◌, ℕ, Bool, false, cond, List, ◌∷◌, Option, Some, Result, Ok, Err, codes, refl, sym, ap, subst}
use Rattle.std.proofs.lemmas.{Bool.false_from_ne_true, Slice.Eq.bytes_eq-Decides}
use Rattle.std.specs.Str.{bytes_eq}
use Rattle.dstm_text.specs.Number.{number_of}
use Rattle.dstm_text.specs.Results.{◌>>=◌, IsRead}
use Rattle.dstm_workload.specs.declared.refused.Why.{Why}
use Rattle.dstm_workload.specs.declared.refused.Why.TheVariants.{Missing}
use Rattle.dstm_workload.specs.Fields.{in_range, number_at, operand_at}

abbrev Fields : Type 0
Fields = List (List ℕ)

abbrev Read : Type 0
Read = Result (ℕ × Fields) Why

-- what was read, with the fields behind it
abbrev with_rest : Fields → Result ℕ Why → Read
with_rest rest r = r >>= λ n. Ok (n, rest)

abbrev Tells : Result ℕ Why → Fields → Read → Type 0
Tells r rest read = IsRead r (λ n. (n, rest)) read

tells_on : (r : Result ℕ Why) (rest : Fields) → Tells r rest (with_rest rest r)
tells_on (Ok n) rest = refl
tells_on (Err why) rest = refl

pub number_read : (least most n : ℕ) (field : List ℕ) (fields rest : Fields) (r : Result ℕ Why) → fields ≡ field ∷ rest →
    number_of field ≡ Some n → r ≡ in_range least most (Some n) → IsRead r (λ m. (m, rest)) (number_at least most fields)
number_read least most n field fields rest r is spelled same =
    let ranged : Tells r rest (with_rest rest (in_range least most (Some n))) =
    subst (λ (x : Result ℕ Why). Tells r rest (with_rest rest x)) same (tells_on r rest) in
    let read : Tells r rest (number_at least most (field ∷ rest)) =
    subst (λ (o : Option ℕ). Tells r rest (with_rest rest (in_range least most o))) (sym spelled) ranged in
    subst (λ (fs : Fields). Tells r rest (number_at least most fs)) (sym is) read

no_semicolon : (field : List ℕ) (n : ℕ) → number_of field ≡ Some n → bytes_eq field (codes ";") ≡ false
no_semicolon field n spelled =
    false_from_ne_true _ (λ same.
    let is = ap number_of ((bytes_eq-Decides field (codes ";")).0 same) in cc (is, spelled))

pub operand_read : (least most n : ℕ) (field : List ℕ) (fields rest : Fields) (r : Result ℕ Why) → fields ≡ field ∷ rest →
    number_of field ≡ Some n → r ≡ in_range least most (Some n) → IsRead r (λ m. (m, rest)) (operand_at least most fields)
operand_read least most n field fields rest r is spelled same =
    let number : Tells r rest (number_at least most (field ∷ rest)) =
    number_read least most n field (field ∷ rest) rest r refl spelled same in
    let read : Tells r rest (operand_at least most (field ∷ rest)) =
    subst (λ (b : Bool). Tells r rest (cond b (Err Missing) (number_at least most (field ∷ rest))))
    (sym (no_semicolon field n spelled)) number in
    subst (λ (fs : Fields). Tells r rest (operand_at least most fs)) (sym is) read
