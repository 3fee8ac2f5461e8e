-- The text of a generated workload is short.
use Rattle.std.proofs.Common.{ℕ, ◌*◌, ◌%◌, ◌<◌, ◌≤◌, Bool, true, false, not, ◌&&◌, List, [], ◌∷◌, ◌++◌, length, map, codes, decimal, if◌then◌else◌, arith, length-append}
use Rattle.std.specs.List.{All, range_with_len}
use Rattle.std.proofs.lemmas.Fmt.{length-decimal-le}
use Rattle.std.proofs.lemmas.List.Elements.{All-head, All-tail, All-map}
use Rattle.std.proofs.lemmas.Grind.{flat_map-append}
use Rattle.std.proofs.Math.Nat.{mod-lt}
use Rattle.dstm_model.specs.declared.op.Op.{Op}
use Rattle.dstm_model.specs.declared.op.Op.TheVariants.{Transfer, Balance, Total, Insert, Remove, Member}
use Rattle.dstm_model.specs.declared.op.Which.TheVariants as which
use Rattle.dstm_workload.specs.declared.workload.Job.{Job}
use Rattle.dstm_workload.specs.Writing.{spaced, joined, lined, fields_of_op, is_orelse, fields_of_ops, fields_of_job, head_of, text_of_workload}
use Rattle.dstm_gen.specs.Words.{skip}
use Rattle.dstm_gen.specs.Generated.{op_with, ops_count, op_at, job_place, job_at, jobs_of, generated}
use Rattle.dstm_gen.proofs.Validity.{length-ops_of, length-jobs_of}

-- a number below 10,000 has at most four digits
digits_le : (n : ℕ) → n < 10000 → length (decimal n) ≤ 4
digits_le n small = length-decimal-le 4 n (omega arith) (omega (arith, small)) (omega (arith, small))

-- ---- operations

record IsShort (op : Op) : Type 0 where
  bytes : length (spaced (fields_of_op op)) ≤ 24

short : (op : Op) → length (spaced (fields_of_op op)) ≤ 24 → IsShort op
short op bytes = record { bytes = bytes }

either : (test : Bool) (first other : Op) → IsShort first → IsShort other → IsShort (if test then first else other)
either true first other h k = h
either false first other h k = k

op_with-short : (form first second third : ℕ) → IsShort (op_with form first second third)
unfolding op_with
op_with-short form first second third =
    let digits = λ (n : ℕ) (small : n < 10000). digits_le n small in
    let a = digits (first % 8) (omega arith) in
    let b = digits (second % 8) (omega arith) in
    let x = digits (third % 200) (omega arith) in
    let k = digits (first % 128) (omega arith) in
    let t = digits (first % 2048) (omega arith) in
    either _ _ _
    (short (Transfer (first % 8) (second % 8) (third % 200)) (simp length-append (omega (arith, a, b, x))))
    (either _ _ _ (short (Balance (first % 8)) (simp length-append (omega (arith, a))))
    (either _ _ _ (short Total (omega arith))
    (either _ _ _ (short (Insert which.List (first % 128)) (simp length-append (omega (arith, k))))
    (either _ _ _ (short (Remove which.List (first % 128)) (simp length-append (omega (arith, k))))
    (either _ _ _ (short (Insert which.Tree (first % 2048)) (simp length-append (omega (arith, t))))
    (either _ _ _ (short (Remove which.Tree (first % 2048)) (simp length-append (omega (arith, t))))
    (short (Member which.Tree (first % 2048)) (simp length-append (omega (arith, t))))))))))

separator_le : (b : Bool) → length (spaced (if b then codes ";" ∷ [] else [])) ≤ 2
separator_le true = omega arith
separator_le false = omega arith

ops_le : (behind : Bool) (ops : List Op) → All IsShort ops → length (spaced (fields_of_ops behind ops)) ≤ 26 * length ops
ops_le behind [] all = omega arith
ops_le behind (op ∷ ops) all =
    let fields : List (List ℕ) = fields_of_op op in
    let rest : List (List ℕ) = fields_of_ops (not (is_orelse op)) ops in
    let here = (All-head IsShort op ops all).bytes in
    let others = ops_le (not (is_orelse op)) ops (All-tail IsShort op ops all) in
    let mark = separator_le (behind && not (is_orelse op)) in
    simp (flat_map-append, length-append) (omega (arith, here, others, mark))

-- ---- jobs

record IsShortJob (job : Job) : Type 0 where
  worker : job.worker < 10000
  few : length job.ops ≤ 4
  ops : All IsShort job.ops

job_le : (job : Job) → IsShortJob job → length (joined (fields_of_job job) ++ 10 ∷ []) ≤ 112
job_le job short =
    let worker = digits_le job.worker short.worker in
    let ops = ops_le false job.ops short.ops in
    let few = short.few in
    simp length-append (omega (arith, worker, ops, few))

jobs_le : (jobs : List Job) → All IsShortJob jobs → length (lined (map fields_of_job jobs)) ≤ 112 * length jobs
jobs_le [] all = omega arith
jobs_le (job ∷ jobs) all =
    let here = job_le job (All-head IsShortJob job jobs all) in
    let others = jobs_le jobs (All-tail IsShortJob job jobs all) in
    simp length-append (omega (arith, here, others, simp length-append at here))

job_at-short : (words : ℕ → ℕ) (workers i : ℕ) → 0 < workers → workers ≤ 32 → IsShortJob (job_at words workers i)
job_at-short words workers i some few =
    let mine = skip (job_place words i) words in
    record {
      worker = omega (arith, mod-lt i some);
      few = omega (arith, length-ops_of mine);
      ops = All-map IsShort (op_at mine) (range_with_len 0 (ops_count mine)) (λ k d within. op_with-short _ _ _ _);
    }

-- ---- the text

head_le : (words : ℕ → ℕ) (count workers : ℕ) → workers ≤ 32 →
    length (lined (head_of (generated words count workers))) ≤ 100
head_le words count workers few =
    let v = digits_le 1 (omega arith) in
    let w = digits_le workers (omega arith) in
    let a = digits_le 8 (omega arith) in
    let b = digits_le 1000 (omega arith) in
    let l = digits_le 64 (omega arith) in
    let t = digits_le 1023 (omega arith) in
    simp length-append (omega (arith, v, w, a, b, l, t))

pub text_le : (words : ℕ → ℕ) (count workers : ℕ) → count ≤ 20000 → 1 ≤ workers → workers ≤ 32 →
    length (text_of_workload (generated words count workers)) ≤ 4194304
unfolding jobs_of
text_le words count workers few some most =
    let jobs = jobs_le (jobs_of words count workers)
    (All-map IsShortJob (job_at words workers) (range_with_len 0 count)
    (λ k d within. job_at-short words workers _ some most)) in
    let size = length-jobs_of words count workers in
    let head = head_le words count workers most in
    let workload = generated words count workers in
    let both = length-append (lined (head_of workload)) (lined (map fields_of_job workload.jobs)) in
    omega (arith, both, jobs, size, head)
