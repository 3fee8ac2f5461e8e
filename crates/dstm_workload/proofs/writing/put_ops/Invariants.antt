use Rattle.std.proofs.Common.{◌≡◌, ◌++◌, drop, false}
use Rattle.dstm_workload.specs.Writing.{spaced, fields_of_ops}
use Rattle.dstm_workload.proofs.writing.put_ops.Given as goal

-- the operations so far and those that are left
abbrev pub invariant-loop-op : goal.invariant-loop-op
invariant-loop-op l =
    l.out.items ++ spaced (fields_of_ops l.behind (drop l.op-index l.ops)) ≡ l.fn.out.items
    ++ spaced (fields_of_ops false l.ops)
