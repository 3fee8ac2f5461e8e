-- The operations read so far, and those that are still to be read.
use Rattle.std.proofs.Common.{◌≡◌, ℕ, zero, suc, ◌+◌, ◌-◌, ◌<◌, ◌≤◌, Bool, true, false, List, [], ◌∷◌, ◌++◌, length}
use Rattle.std.proofs.Common.{Result, Ok, Err, sym, ◌∙◌, arith}
use Rattle.dstm_model.specs.declared.op.Op.{Op}
use Rattle.dstm_model.specs.declared.op.Op.TheVariants as op
use Rattle.dstm_workload.specs.declared.{refused.Why.Why, refused.Why.TheVariants.TooMany, known.Known.Known}
use Rattle.dstm_workload.specs.declared.operations.Separator.{Separator}
use Rattle.dstm_workload.specs.declared.operations.Separator.TheVariants as separator
use Rattle.dstm_text.specs.Results.{◌>>=◌}
use Rattle.dstm_workload.specs.Operations.{op_at, next_at, ops_from}

-- what is read behind a separator
abbrev pub onward : ℕ → Known → ℕ → List Op → Separator × List (List ℕ) → Result (List Op) Why
onward version known left ops s = elim s.0 [
  | separator.End ↦ Ok ops
  | separator.Then ↦ ops_from version known left ops false s.1
  | separator.OrElse ↦ ops_from version known left (ops ++ op.OrElse ∷ []) true s.1
]

-- what is left to read gives the whole, and there is room for an operation
pub record AreLeft (version : ℕ) (known : Known) (counter : ℕ) (ops : List Op) (first : Bool) (fields : List (List ℕ))
    (whole : Result (List Op) Why) : Type 0 where
  pub read : ops_from version known (8 - counter) ops first fields ≡ whole
  pub room : length ops < 8

module _ {version : ℕ} {known : Known} {counter : ℕ} {ops : List Op} {first : Bool} {fields : List (List ℕ)}
    {whole : Result (List Op) Why} (left : AreLeft version known counter ops first fields whole) where
  -- no step is left
  pub none_left : 8 ≤ counter → whole ≡ Err TooMany
  unfolding ops_from
  none_left done = let none : 8 - counter ≡ zero = omega arith in sym (rw none at left.read)

  step : counter < 8 → ops_from version known (suc (8 - (counter + 1))) ops first fields ≡ whole
  step some = let one : 8 - counter ≡ suc (8 - (counter + 1)) = omega arith in rw one at left.read

  pub op_refused : {why : Why} → counter < 8 → op_at version known first fields ≡ Err why → whole ≡ Err why
  unfolding ops_from
  op_refused some is = sym (step some) ∙ rw is

  pub goes_on : {o : Op} {rest : List (List ℕ)} {after slice : List Op} {r : Result (Separator × List (List ℕ)) Why} →
      counter < 8 → op_at version known first fields ≡ Ok (o, rest) → after ≡ ops ++ o ∷ [] → slice ≡ after →
      next_at version (length slice) rest ≡ r →
      whole ≡ (r >>= λ s. onward version known (8 - (counter + 1)) after s)
  unfolding ops_from
  goes_on some is pushed same sep =
      let here = rw (same, pushed) at sep in sym (step some) ∙ rw (is, here, pushed)
