-- The branches of a job as the pieces around its separators.
use Rattle.std.proofs.Common.{◌≡◌, ℕ, ◌+◌, ltb, false, List, [], ◌∷◌, length, take, drop, Some, None, position, refl, ap, ◌∙◌, sym, arith, ⊎_elim}
use Rattle.std.specs.List.{slice_split, onto_first as onto_first_piece, position_or_len}
use Rattle.std.proofs.lemmas.Bool.{ltb-true, ltb-false, cases_Bool, cond-true, cond-false}
use Rattle.std.proofs.lemmas.Option.{same_Some}
use Rattle.std.proofs.lemmas.List.Splits.{slice_split_first, slice_split_none}
use Rattle.std.proofs.lemmas.List.Sums.{fails_before_first}
use Rattle.std.proofs.lemmas.List.Elements.{All-from_get_or}
use Rattle.dstm_model.specs.declared.op.Op.{Op}
use Rattle.dstm_model.specs.declared.op.Op.TheVariants.{OrElse}
use Rattle.dstm_model.specs.Job.{branches_of, onto_first, is_separator}

onto_first-piece : (op : Op) (branches : List (List Op)) → onto_first op branches ≡ onto_first_piece op branches
onto_first-piece op [] = refl
onto_first-piece op (branch ∷ branches) = refl

pub branches_of-split : (ops : List Op) → branches_of ops ≡ slice_split is_separator ops
branches_of-split [] = refl
branches_of-split (OrElse ∷ ops) = ap (λ (bs : List (List Op)). [] ∷ bs) (branches_of-split ops)
branches_of-split (op ∷ ops) = ap (onto_first op) (branches_of-split ops) ∙ onto_first-piece op (slice_split is_separator ops)

-- the first branch ends at the first separator
pub branches_at : (ops : List Op) (at : ℕ) → position is_separator ops ≡ Some at →
    branches_of ops ≡ take at ops ∷ branches_of (drop (at + 1) ops)
branches_at ops at is =
    let n = position_or_len is_separator ops in
    ⊎_elim
    (λ within.
    let same : n ≡ at = same_Some n at (sym (cond-true (ltb n (length ops)) (Some n) None within) ∙ is) in
    branches_of-split ops ∙ slice_split_first is_separator ops OrElse (ltb-true n (length ops) within)
    ∙ ap (λ (k : ℕ). take k ops ∷ slice_split is_separator (drop (k + 1) ops)) same
    ∙ ap (λ (bs : List (List Op)). take at ops ∷ bs) (sym (branches_of-split (drop (at + 1) ops))))
    (λ none. let e : None ≡ Some at = sym (cond-false (ltb n (length ops)) (Some n) None none) ∙ is in absurd (let no : ⊥ = cc in no))
    (cases_Bool (ltb n (length ops)))

-- operations without a separator are one branch
pub branches_none : (ops : List Op) → position is_separator ops ≡ None → branches_of ops ≡ ops ∷ []
branches_none ops is =
    let n = position_or_len is_separator ops in
    ⊎_elim
    (λ within. let e : Some n ≡ None = sym (cond-true (ltb n (length ops)) (Some n) None within) ∙ is in absurd (let no : ⊥ = cc in no))
    (λ none.
    let above = ltb-false n (length ops) none in
    branches_of-split ops
    ∙ slice_split_none is_separator ops
    (All-from_get_or (λ op. is_separator op ≡ false) ops OrElse
    (λ k lt. fails_before_first is_separator ops k OrElse (omega arith))))
    (cases_Bool (ltb n (length ops)))
