-- Where operations and jobs begin, and the lists of the first ones.
use Rattle.std.proofs.Common.{◌≡◌, ℕ, ◌+◌, List, [], ◌∷◌, ◌++◌, map, ap, ◌∙◌, sym, add-one, zero-add}
use Rattle.std.specs.List.{range_with_len}
use Rattle.std.proofs.lemmas.List.FromFn.{map-range_with_len_more}
use Rattle.dstm_model.specs.declared.op.Op.{Op}
use Rattle.dstm_workload.specs.declared.workload.Job.{Job}
use Rattle.dstm_gen.specs.Words.{skip}
use Rattle.dstm_gen.specs.Generated.{op_place, op_size, job_place, job_size}

pub op_place-more : (words : ℕ → ℕ) (k : ℕ) →
    op_place words (k + 1) ≡ op_place words k + op_size (skip (op_place words k) words)
unfolding op_place
op_place-more words k = ap (op_place words) (add-one k)

pub job_place-more : (words : ℕ → ℕ) (i : ℕ) →
    job_place words (i + 1) ≡ job_place words i + job_size (skip (job_place words i) words)
unfolding job_place
job_place-more words i = ap (job_place words) (add-one i)

-- the first values of a function, and one more
pub one_more : {X : Type 0} (f : ℕ → X) (xs ys : List X) (x : X) (n : ℕ) → xs ≡ map f (range_with_len 0 n) →
    x ≡ f n → ys ≡ xs ++ x ∷ [] → ys ≡ map f (range_with_len 0 (n + 1))
one_more {X} f xs ys x n so_far here more =
    more ∙ ap (λ (zs : List X). zs ++ x ∷ []) so_far
    ∙ ap (λ (z : X). map f (range_with_len 0 n) ++ z ∷ []) here
    ∙ sym (map-range_with_len_more f 0 n n (zero-add n))

-- a job by its parts
abbrev job : (line worker : ℕ) → List Op → Job
job line worker ops = record { line = line; worker = worker; ops = ops }

pub same_job : (line line' worker : ℕ) (ops ops' : List Op) → line ≡ line' → ops ≡ ops' →
    job line worker ops ≡ job line' worker ops'
same_job line line' worker ops ops' h k =
    ap (λ (n : ℕ). job n worker ops) h ∙ ap (λ (os : List Op). job line' worker os) k
