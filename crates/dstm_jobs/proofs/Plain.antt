-- A job of plain operations has one branch, which is open.
use Rattle.std.proofs.Common.{◌≡◌, ◌∙◌, true, List, [], ◌∷◌, Option, Some, refl, ap, All}
use Rattle.std.specs.List.{find, AllByRecursion}
use Rattle.std.proofs.lemmas.List.Elements.{recursion_from_All}
use Rattle.dstm_model.specs.declared.op.Op.{Op}
use Rattle.dstm_model.specs.declared.op.Op.TheVariants.{Await, OrElse}
use Rattle.dstm_model.specs.Job.{apply_all, apply_job, branches_of, is_open, onto_first, run_branch}
use Rattle.dstm_model.specs.Store.{Store, IsPlain}

one_branch : (ops : List Op) → AllByRecursion IsPlain ops → branches_of ops ≡ ops ∷ []
one_branch [] plain = refl
one_branch (Await c ∷ ops) plain = absurd plain.0
one_branch (OrElse ∷ ops) plain = absurd plain.0
one_branch (op ∷ ops) plain = ap (onto_first op) (one_branch ops plain.1)

plain_open : (ops : List Op) (store : Store) → AllByRecursion IsPlain ops → is_open store ops ≡ true
plain_open [] store plain = refl
plain_open (Await c ∷ ops) store plain = absurd plain.0
plain_open (op ∷ ops) store plain = refl

first_branch : (ops : List Op) (store : Store) → is_open store ops ≡ true → find (is_open store) (ops ∷ []) ≡ Some ops
first_branch ops store is = rw is refl

-- so it does what its operations do in order
pub plain_job : (ops : List Op) (store : Store) → All IsPlain ops → apply_job ops store ≡ Some (apply_all ops store)
plain_job ops store all =
    let plain = recursion_from_All IsPlain ops all in
    ap (λ (branch : Option (List Op)). run_branch branch store)
    (ap (find (is_open store)) (one_branch ops plain) ∙ first_branch ops store (plain_open ops store plain))
