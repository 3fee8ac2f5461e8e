-- The jobs of a worker that are left, and the first of them.
use Rattle.std.proofs.Common.{◌≡◌, ◌≢◌, ◌⊎◌, ℕ, ◌<◌, true, false, cond, eqb, List, [], ◌∷◌, length, drop, Some, refl, ap, sym, ◌∙◌, inl, inr, arith, true≢false}
use Rattle.std.specs.List.{slice_get}
use Rattle.std.proofs.lemmas.Bool.{eq-eqb, ne_eqb, cases_eq}
use Rattle.dstm_workload.specs.declared.workload.Job.{Job}
use Rattle.dstm_report.specs.Lawful.{first_job}
use Rattle.dstm_report.specs.Turns.{jobs_of, without_first}
use Rattle.dstm_records.specs.Rounds.{has_job}

-- the first job of a worker begins its jobs
pub first_of_jobs : (worker : ℕ) (left : List Job) → first_job worker left ≡ slice_get (jobs_of worker left) 0
first_of_jobs worker [] = refl
first_of_jobs worker (job ∷ left) =
    elim (eqb job.worker worker) as (λ b. cond b (Some job) (first_job worker left)
    ≡ slice_get (cond b (job ∷ jobs_of worker left) (jobs_of worker left)) 0) [
      | true ↦ refl
      | false ↦ first_of_jobs worker left
    ]

-- without it the rest of them is left
pub own_turn : (worker : ℕ) (left : List Job) (job : Job) (rest : List Job) → jobs_of worker left ≡ job ∷ rest →
    jobs_of worker (without_first worker left) ≡ rest
own_turn worker [] job rest is = absurd (let e = ap length is in omega arith)
own_turn worker (first ∷ left) job rest is = by (cases_eq first.worker worker) (own_turn worker left job rest)
  where
    by : (first.worker ≡ worker) ⊎ (first.worker ≡ worker → ⊥) →
        (jobs_of worker left ≡ job ∷ rest → jobs_of worker (without_first worker left) ≡ rest) →
        jobs_of worker (without_first worker (first ∷ left)) ≡ rest
    by (inl own) ih =
        let here : first ∷ jobs_of worker left ≡ job ∷ rest = sym (let e : jobs_of worker (first ∷ left) ≡ first ∷ jobs_of worker left = rw (eq-eqb first.worker worker own) refl in e) ∙ is in
        (let e : jobs_of worker (without_first worker (first ∷ left)) ≡ jobs_of worker left = rw (eq-eqb first.worker worker own) refl in e)
        ∙ ap (drop 1) here
    by (inr other) ih =
        let here : jobs_of worker left ≡ job ∷ rest = sym (let e : jobs_of worker (first ∷ left) ≡ jobs_of worker left = rw (ne_eqb first.worker worker other) refl in e) ∙ is in
        (let e : jobs_of worker (without_first worker (first ∷ left)) ≡ jobs_of worker (without_first worker left) =
        rw (ne_eqb first.worker worker other) (rw (ne_eqb first.worker worker other) refl) in e)
        ∙ ih here

-- the jobs of another worker stay
pub other_turn : (mine worker : ℕ) (left : List Job) → worker ≢ mine → jobs_of worker (without_first mine left) ≡ jobs_of worker left
other_turn mine worker [] apart = refl
other_turn mine worker (first ∷ left) apart = by (cases_eq first.worker mine) (other_turn mine worker left apart)
  where
    by : (first.worker ≡ mine) ⊎ (first.worker ≡ mine → ⊥) → jobs_of worker (without_first mine left) ≡ jobs_of worker left →
        jobs_of worker (without_first mine (first ∷ left)) ≡ jobs_of worker (first ∷ left)
    by (inl own) ih =
        (let e : jobs_of worker (without_first mine (first ∷ left)) ≡ jobs_of worker left = rw (eq-eqb first.worker mine own) refl in e)
        ∙ sym (let e : jobs_of worker (first ∷ left) ≡ jobs_of worker left =
        rw (ne_eqb first.worker worker (λ q. apart (sym q ∙ own))) refl in e)
    by (inr other) ih =
        (let e : jobs_of worker (without_first mine (first ∷ left)) ≡ jobs_of worker (first ∷ without_first mine left) =
        rw (ne_eqb first.worker mine other) refl in e)
        ∙ elim (eqb first.worker worker) as (λ b. cond b (first ∷ jobs_of worker (without_first mine left)) (jobs_of worker (without_first mine left))
        ≡ cond b (first ∷ jobs_of worker left) (jobs_of worker left)) [
          | true ↦ ap (λ (js : List Job). first ∷ js) ih
          | false ↦ ih
        ]

-- some job is left of a worker exactly where there is a first one
pub has_some : (worker : ℕ) (left : List Job) → has_job left worker ≡ true → 0 < length (jobs_of worker left)
has_some worker [] has = absurd (true≢false (sym has))
has_some worker (job ∷ left) has =
    elim (cases_eq job.worker worker) [
      | inl own ↦ (let e : jobs_of worker (job ∷ left) ≡ job ∷ jobs_of worker left = rw (eq-eqb job.worker worker own) refl in
          let n = ap length e in omega arith)
      | inr other ↦
          let e : jobs_of worker (job ∷ left) ≡ jobs_of worker left = rw (ne_eqb job.worker worker other) refl in
          let n = ap length e in
          let rest : has_job left worker ≡ true = sym (let e : has_job (job ∷ left) worker ≡ has_job left worker = rw (ne_eqb job.worker worker other) refl in e) ∙ has in
          let ih = has_some worker left rest in omega arith
    ]
