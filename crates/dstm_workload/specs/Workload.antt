-- Which workloads are valid.
use Rattle.std.specs.Prelude.{ℕ, ◌<◌, ◌^◌, ◌≤◌, List, [], ◌∷◌, length, map, All}
use Rattle.std.specs.List.Sorted.{IsStrictlyIncreasing}
use Rattle.dstm_model.specs.declared.layout.Layout.{Layout}
use Rattle.dstm_model.specs.Layout.{IsValid, FitsLayout}
use Rattle.dstm_model.specs.Job.{branches_of}
use Rattle.dstm_model.specs.declared.op.Op.{Op}
use Rattle.dstm_model.specs.declared.op.Op.TheVariants.{Put, Get, Await, OrElse}
use Rattle.dstm_workload.specs.declared.workload.Job.{Job}
use Rattle.dstm_workload.specs.declared.workload.Workload.{Workload}

-- the version has this operation
abbrev pub HasOp : ℕ → Op → Type 0
HasOp version (Put key value) = 2 ≤ version
HasOp version (Get key) = 2 ≤ version
HasOp version (Await c) = 3 ≤ version
HasOp version OrElse = 3 ≤ version
HasOp version op = Unit {0}

-- a value that is put is a number of 64 bits
abbrev pub HasValue : Op → Type 0
HasValue (Put key value) = value < 2 ^ 64
HasValue op = Unit {0}

abbrev pub IsNoAwait : Op → Type 0
IsNoAwait (Await c) = ⊥
IsNoAwait op = Unit {0}

-- a branch has an operation, and awaits nothing behind its first one
abbrev pub IsBranch : List Op → Type 0
IsBranch [] = ⊥
IsBranch (op ∷ ops) = All IsNoAwait ops

-- operations of a transaction, for this version and this layout
pub record AreOperations (version : ℕ) (layout : Layout) (ops : List Op) : Type 0 where
  pub few : length ops ≤ 8
  pub fits : All (FitsLayout layout) ops
  pub have : All (HasOp version) ops
  pub values : All HasValue ops
  pub branches : All IsBranch (branches_of ops)

-- a job of a workload
pub record IsJob (workload : Workload) (job : Job) : Type 0 where
  pub worker : job.worker < workload.workers
  pub few : length job.ops ≤ 8
  pub fits : All (FitsLayout workload.layout) job.ops
  pub version : All (HasOp workload.version) job.ops
  pub values : All HasValue job.ops
  pub branches : All IsBranch (branches_of job.ops)

abbrev pub lines_of_jobs : List Job → List ℕ
lines_of_jobs jobs = map (λ job. job.line) jobs

-- a valid workload
pub record IsValidWorkload (workload : Workload) : Type 0 where
  pub oldest : 1 ≤ workload.version
  pub newest : workload.version ≤ 3
  pub some_worker : 1 ≤ workload.workers
  pub workers : workload.workers ≤ 32
  pub layout : IsValid workload.layout
  pub few : length workload.jobs ≤ 20000
  pub rising : IsStrictlyIncreasing (lines_of_jobs workload.jobs)
  pub each : All (IsJob workload) workload.jobs
