-- The workers that have jobs left, counted from the last one down.
use Rattle.std.proofs.Common.{◌≡◌, ℕ, suc, ◌+◌, ◌-◌, ◌<◌, ◌≤◌, Bool, true, false, cond, eqb, List, [], ◌∷◌, length, Option, Some, None, is_some, refl, ap, sym, subst, ◌∙◌, arith}
use Rattle.std.specs.Borrow.{Bor}
use Rattle.std.specs.Prelude.{◌||◌, filter, IfSome, option_copied}
use Rattle.std.specs.List.{range_with_len, slice_get}
use Rattle.dstm_workload.specs.declared.workload.Job.{Job}
use Rattle.dstm_report.specs.Lawful.{first_job}
use Rattle.dstm_records.specs.Rounds.{has_job}

-- those from this one on
abbrev pub from_on : (workers : ℕ) → List Job → (worker : ℕ) → List ℕ
from_on workers left worker = filter (has_job left) (range_with_len worker (workers - worker))

-- so many, of which this is the first
pub record IsCounted (workers : ℕ) (left : List Job) (worker count first : ℕ) : Type 0 where
  pub is : count ≡ length (from_on workers left worker)
  pub few : count + worker ≤ workers
  pub least : IfSome (slice_get (from_on workers left worker) 0) (λ w. first ≡ w)

has_first : (worker : ℕ) (left : List Job) → has_job left worker ≡ is_some (first_job worker left)
has_first worker [] = refl
has_first worker (job ∷ left) = by (eqb job.worker worker) (has_first worker left)
  where
    by : (b : Bool) → has_job left worker ≡ is_some (first_job worker left) →
        (b || has_job left worker) ≡ is_some (cond b (Some job) (first_job worker left))
    by true same = refl
    by false same = same

copied_some : (found : Option (Bor Job)) → is_some (option_copied found) ≡ is_some found
copied_some None = refl
copied_some (Some job) = refl

-- a worker has a job left where its first one is found
pub is_found : (worker : ℕ) (left : List Job) (found : Option (Bor Job)) → option_copied found ≡ first_job worker left →
    has_job left worker ≡ is_some found
is_found worker left found is = has_first worker left ∙ ap is_some (sym is) ∙ copied_some found

next_is : (workers : ℕ) (left : List Job) (worker : ℕ) → worker < workers →
    from_on workers left worker
    ≡ cond (has_job left worker) (worker ∷ from_on workers left (worker + 1)) (from_on workers left (worker + 1))
next_is workers left worker below =
    let more : workers - worker ≡ suc (workers - (worker + 1)) = omega (arith, below) in
    ap (λ n. filter (has_job left) (range_with_len worker n)) more

-- one more, which is the first now
pub counted : {workers : ℕ} {left : List Job} (worker : ℕ) {count first : ℕ} → worker < workers →
    has_job left worker ≡ true → IsCounted workers left (worker + 1) count first →
    IsCounted workers left worker (count + 1) worker
counted {workers = workers} {left = left} worker below has c =
    let more : from_on workers left worker ≡ worker ∷ from_on workers left (worker + 1) =
    next_is workers left worker below
    ∙ ap (λ b. cond b (worker ∷ from_on workers left (worker + 1)) (from_on workers left (worker + 1))) has in
    record {
      is = let l = ap length more in let n = c.is in omega (arith, l, n);
      few = let f = c.few in omega (arith, f);
      least = subst (λ (ws : List ℕ). IfSome (slice_get ws 0) (λ w. worker ≡ w)) (sym more) refl;
    }

-- none more
pub passed_over : {workers : ℕ} {left : List Job} (worker : ℕ) {count first : ℕ} → worker < workers →
    has_job left worker ≡ false → IsCounted workers left (worker + 1) count first →
    IsCounted workers left worker count first
passed_over {workers = workers} {left = left} worker {first = first} below has c =
    let more : from_on workers left worker ≡ from_on workers left (worker + 1) = next_is workers left worker below
    ∙ ap (λ b. cond b (worker ∷ from_on workers left (worker + 1)) (from_on workers left (worker + 1))) has in
    record {
      is = let l = ap length more in let n = c.is in omega (arith, l, n);
      few = let f = c.few in omega (arith, f);
      least = subst (λ (ws : List ℕ). IfSome (slice_get ws 0) (λ w. first ≡ w)) (sym more) c.least;
    }
