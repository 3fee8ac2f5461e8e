-- The jobs of a generated workload have the lines of its text.
use Rattle.std.proofs.Common.{◌≡◌, ℕ, zero, suc, ◌+◌, List, ◌∷◌, map, refl, ap, ap₂, arith}
use Rattle.std.specs.List.{range_with_len}
use Rattle.dstm_workload.specs.declared.workload.Job.{Job}
use Rattle.dstm_workload.specs.Writing.{renumbered, as_written}
use Rattle.dstm_gen.specs.Generated.{job_at, jobs_of, generated}

same_lines : (words : ℕ → ℕ) (workers i n line : ℕ) → i + 6 ≡ line →
    renumbered line (map (job_at words workers) (range_with_len i n)) ≡ map (job_at words workers) (range_with_len i n)
same_lines words workers i zero line is = refl
same_lines words workers i (suc n) line is =
    let rest = same_lines words workers (i + 1) n (line + 1) (omega (arith, is)) in
    let back : line ≡ i + 6 = omega (arith, is) in
    ap₂ (λ (l : ℕ) (js : List Job). record (job_at words workers i) { line = l } ∷ js) back rest

pub lines_are : (words : ℕ → ℕ) (count workers : ℕ) →
    as_written (generated words count workers) ≡ generated words count workers
unfolding jobs_of
lines_are words count workers =
    ap (λ (js : List Job). record (generated words count workers) { jobs = js }) (same_lines words workers 0 count 6 refl)
