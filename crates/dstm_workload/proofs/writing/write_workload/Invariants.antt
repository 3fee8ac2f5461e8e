use Rattle.std.proofs.Common.{◌≡◌, ◌++◌, map, drop}
use Rattle.dstm_workload.specs.Writing.{lined, fields_of_job, text_of_workload}
use Rattle.dstm_workload.proofs.writing.write_workload.Given as goal

-- the transactions so far and those that are left
abbrev pub invariant-loop-job : goal.invariant-loop-job
invariant-loop-job l =
    l.out.items ++ lined (map fields_of_job (drop l.job-index l.workload.jobs)) ≡ text_of_workload l.workload
