-- A generated workload is valid, whatever the words are.
use Rattle.std.proofs.Common.{◌≡◌, ℕ, ◌+◌, ◌%◌, ◌<◌, ◌≤◌, Bool, true, false, List, [], ◌∷◌, length, map, get_or, refl, sym, ap, subst, ◌∙◌, arith, zero-add, if◌then◌else◌}
use Rattle.std.specs.List.{All, range_with_len}
use Rattle.std.proofs.Math.Nat.{mod-lt}
use Rattle.std.proofs.lemmas.List.Elements.{All-nil, All-cons, All-head, All-tail, All-weaker, All-map}
use Rattle.std.proofs.lemmas.List.FromFn.{length-map-range_with_len, get_or-map-range_with_len}
use Rattle.std.proofs.lemmas.Simd.{map-map}
use Rattle.dstm_model.specs.declared.op.Op.{Op}
use Rattle.dstm_model.specs.declared.op.Op.TheVariants.{Transfer, Balance, Total, Insert, Remove, Member, Put, OrElse}
use Rattle.dstm_model.specs.declared.op.Which.TheVariants as which
use Rattle.dstm_model.specs.Job.{branches_of, onto_first, is_separator}
use Rattle.dstm_model.specs.Layout.{IsValid, FitsLayout}
use Rattle.dstm_workload.specs.declared.workload.Job.{Job}
use Rattle.dstm_workload.specs.Workload.{HasOp, HasValue, IsNoAwait, IsBranch, IsJob, IsValidWorkload, lines_of_jobs}
use Rattle.dstm_gen.specs.Words.{skip}
use Rattle.dstm_gen.specs.Generated.{job_place, generated_layout, op_with, ops_count, op_at, ops_of, job_at, jobs_of, generated}

-- ---- operations

-- an operation that fits, that the first version has, and that begins no branch
record IsPlain (op : Op) : Type 0 where
  fits : FitsLayout generated_layout op
  version : HasOp 1 op
  no_await : IsNoAwait op
  no_separator : is_separator op ≡ false

plain : (op : Op) → FitsLayout generated_layout op → HasOp 1 op → IsNoAwait op →
    is_separator op ≡ false → IsPlain op
plain op fits version no_await no_separator =
    record { fits = fits; version = version; no_await = no_await; no_separator = no_separator }

either : (test : Bool) (first other : Op) → IsPlain first → IsPlain other →
    IsPlain (if test then first else other)
either true first other h k = h
either false first other h k = k

op_with-plain : (form first second third : ℕ) → IsPlain (op_with form first second third)
unfolding op_with
op_with-plain form first second third =
    either _ _ _
    (plain (Transfer (first % 8) (second % 8) (third % 200)) (omega arith, omega arith, omega arith) tt tt refl)
    (either _ _ _ (plain (Balance (first % 8)) (omega arith) tt tt refl)
    (either _ _ _ (plain Total (omega arith) tt tt refl)
    (either _ _ _ (plain (Insert which.List (first % 128)) (omega arith, omega arith) tt tt refl)
    (either _ _ _ (plain (Remove which.List (first % 128)) (omega arith, omega arith) tt tt refl)
    (either _ _ _ (plain (Insert which.Tree (first % 2048)) (omega arith, omega arith) tt tt refl)
    (either _ _ _ (plain (Remove which.Tree (first % 2048)) (omega arith, omega arith) tt tt refl)
    (plain (Member which.Tree (first % 2048)) (omega arith, omega arith) tt tt refl)))))))

all_plain : (words : ℕ → ℕ) → All IsPlain (ops_of words)
all_plain words =
    All-map IsPlain (op_at words) (range_with_len 0 (ops_count words)) (λ k d within. op_with-plain _ _ _ _)

-- ---- branches

branches_of-plain : (op : Op) (ops : List Op) → is_separator op ≡ false →
    branches_of (op ∷ ops) ≡ onto_first op (branches_of ops)
branches_of-plain OrElse ops is = absurd (let no : ⊥ = cc in no)
branches_of-plain op ops is = refl

-- plain operations are one branch
one_branch : (ops : List Op) → All IsPlain ops → branches_of ops ≡ ops ∷ []
one_branch [] all = refl
one_branch (op ∷ ops) all =
    branches_of-plain op ops (All-head IsPlain op ops all).no_separator
    ∙ ap (onto_first op) (one_branch ops (All-tail IsPlain op ops all))

is_branch : (ops : List Op) → 0 < length ops → All IsPlain ops → IsBranch ops
is_branch [] some all = absurd (omega arith)
is_branch (op ∷ ops) some all =
    All-weaker IsPlain IsNoAwait (λ o h. h.no_await) ops (All-tail IsPlain op ops all)

branches_are : (ops : List Op) → 0 < length ops → All IsPlain ops → All IsBranch (branches_of ops)
branches_are ops some all =
    subst (All IsBranch) (sym (one_branch ops all))
    (All-cons IsBranch ops [] (is_branch ops some all) (All-nil IsBranch))

-- ---- jobs

-- the first version puts no values
no_values : (op : Op) → HasOp 1 op → HasValue op
no_values (Put key value) version = absurd (omega (arith, version))
no_values op version = tt

pub length-ops_of : (words : ℕ → ℕ) → length (ops_of words) ≡ ops_count words
length-ops_of words = length-map-range_with_len (op_at words) 0 (ops_count words)

job_at-valid : (words : ℕ → ℕ) (count workers i : ℕ) → 0 < workers →
    IsJob (generated words count workers) (job_at words workers i)
job_at-valid words count workers i some =
    let mine = skip (job_place words i) words in
    let ops = ops_of mine in
    let all = all_plain mine in
    let size = length-ops_of mine in
    record {
      worker = mod-lt i some;
      few = omega (arith, size);
      fits = All-weaker IsPlain (FitsLayout generated_layout) (λ op h. h.fits) ops all;
      version = All-weaker IsPlain (HasOp 1) (λ op h. h.version) ops all;
      values = All-weaker IsPlain HasValue (λ op h. no_values op h.version) ops all;
      branches = branches_are ops (omega (arith, size)) all;
    }

pub length-jobs_of : (words : ℕ → ℕ) (count workers : ℕ) → length (jobs_of words count workers) ≡ count
unfolding jobs_of
length-jobs_of words count workers = length-map-range_with_len (job_at words workers) 0 count

lines-jobs_of : (words : ℕ → ℕ) (count workers : ℕ) →
    lines_of_jobs (jobs_of words count workers) ≡ map (λ i. i + 6) (range_with_len 0 count)
unfolding jobs_of
lines-jobs_of words count workers =
    map-map (λ (job : Job). job.line) (job_at words workers) (range_with_len 0 count)

line_at : (words : ℕ → ℕ) (count workers k : ℕ) → k < count →
    get_or (lines_of_jobs (jobs_of words count workers)) k 0 ≡ k + 6
line_at words count workers k within =
    ap (λ (lines : List ℕ). get_or lines k 0) (lines-jobs_of words count workers)
    ∙ get_or-map-range_with_len (λ (i : ℕ). i + 6) 0 count k k 0 within (zero-add k)

length-lines : (words : ℕ → ℕ) (count workers : ℕ) →
    length (lines_of_jobs (jobs_of words count workers)) ≡ count
length-lines words count workers =
    ap length (lines-jobs_of words count workers) ∙ length-map-range_with_len (λ (i : ℕ). i + 6) 0 count

-- ---- the workload

layout_valid : IsValid generated_layout
layout_valid = record {
  accounts = omega arith;
  opening = omega arith;
  unopened = λ none. absurd (omega arith);
  list = omega arith;
  tree = omega arith;
}

pub generated-valid :
    (words : ℕ → ℕ) (count workers : ℕ) → count ≤ 20000 → 1 ≤ workers → workers ≤ 32 →
    IsValidWorkload (generated words count workers)
unfolding jobs_of
generated-valid words count workers few some most =
    let size = length-lines words count workers in
    record {
      oldest = omega arith;
      newest = omega arith;
      some_worker = some;
      workers = most;
      layout = layout_valid;
      few = omega (arith, length-jobs_of words count workers);
      rising = λ k below.
          let next : k + 1 < count = omega arith in
          let here : k < count = omega arith in
          omega (arith, line_at words count workers k here, line_at words count workers (k + 1) next);
      each = All-map (IsJob (generated words count workers)) (job_at words workers) (range_with_len 0 count)
          (λ k d within. job_at-valid words count workers _ some);
    }
