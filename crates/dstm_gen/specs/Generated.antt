-- Which workload a stream of words stands for. Each definition is about what its stream begins with.
use Rattle.std.specs.Prelude.{ℕ, zero, suc, ◌+◌, ◌%◌, ◌==◌, nat_lt, List, map, if◌then◌else◌}
use Rattle.std.specs.List.{range_with_len}
use Rattle.dstm_model.specs.declared.layout.Layout.{Layout}
use Rattle.dstm_model.specs.declared.op.Op.{Op}
use Rattle.dstm_model.specs.declared.op.Op.TheVariants.{Transfer, Balance, Total, Insert, Remove, Member}
use Rattle.dstm_model.specs.declared.op.Which.TheVariants as which
use Rattle.dstm_workload.specs.declared.workload.Job.{Job}
use Rattle.dstm_workload.specs.declared.workload.Workload.{Workload}
use Rattle.dstm_gen.specs.Words.{skip}

-- eight accounts of 1,000 each, a list for 64 keys and a tree for 1,023
abbrev pub generated_layout : Layout
generated_layout = record { accounts = 8; opening = 1000; list = 64; tree = 1023 }

-- ---- an operation: a word for its form, and then a word for each of its numbers

-- the operation of this form, from 0 to 9, where these are the words after it
unfoldable pub op_with : (form first second third : ℕ) → Op
op_with form first second third =
    if nat_lt form 3 then Transfer (first % 8) (second % 8) (third % 200) else
    if form == 3 then Balance (first % 8) else
    if form == 4 then Total else
    if form == 5 then Insert which.List (first % 128) else
    if form == 6 then Remove which.List (first % 128) else
    if form == 7 then Insert which.Tree (first % 2048) else
    if form == 8 then Remove which.Tree (first % 2048) else
    Member which.Tree (first % 2048)

abbrev pub op_of : (ℕ → ℕ) → Op
op_of words = op_with (words 0 % 10) (words 1) (words 2) (words 3)

-- how many numbers an operation of a generated workload has
abbrev pub numbers_of : Op → ℕ
numbers_of (Transfer source target amount) = 3
numbers_of Total = 0
numbers_of op = 1

-- how many words it takes
abbrev pub op_size : (ℕ → ℕ) → ℕ
op_size words = 1 + numbers_of (op_of words)

-- ---- a job: a word for the number of its operations, and then their words

abbrev pub ops_count : (ℕ → ℕ) → ℕ
ops_count words = 1 + words 0 % 4

-- where the words of its operation k begin, from 0
unfoldable pub op_place : (ℕ → ℕ) → ℕ → ℕ
op_place words zero = 1
op_place words (suc k) = op_place words k + op_size (skip (op_place words k) words)

abbrev pub op_at : (ℕ → ℕ) → ℕ → Op
op_at words k = op_of (skip (op_place words k) words)

abbrev pub ops_of : (ℕ → ℕ) → List Op
ops_of words = map (op_at words) (range_with_len 0 (ops_count words))

-- how many words it takes
abbrev pub job_size : (ℕ → ℕ) → ℕ
job_size words = op_place words (ops_count words)

-- ---- jobs, one after the other

-- where the words of job i begin, from 0
unfoldable pub job_place : (ℕ → ℕ) → ℕ → ℕ
job_place words zero = 0
job_place words (suc i) = job_place words i + job_size (skip (job_place words i) words)

-- job i. Its line is the one that it has in the workload's text: the header, the workers and the three
-- structures take the first five lines.
abbrev pub job_at : (ℕ → ℕ) → (workers i : ℕ) → Job
job_at words workers i = record {
  line = i + 6;
  worker = i % workers;
  ops = ops_of (skip (job_place words i) words);
}

unfoldable pub jobs_of : (ℕ → ℕ) → (count workers : ℕ) → List Job
jobs_of words count workers = map (job_at words workers) (range_with_len 0 count)

-- the workload of so many jobs and workers
abbrev pub generated : (ℕ → ℕ) → (count workers : ℕ) → Workload
generated words count workers = record {
  version = 1;
  workers = workers;
  layout = generated_layout;
  jobs = jobs_of words count workers;
}
