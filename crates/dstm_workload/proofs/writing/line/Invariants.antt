use Rattle.std.proofs.Common.{◌≡◌, ◌++◌, map, drop, decimal}
use Rattle.dstm_workload.specs.Writing.{spaced}
use Rattle.dstm_workload.proofs.writing.line.Given as goal

-- the numbers so far and those that are left
abbrev pub invariant-loop-number : goal.invariant-loop-number
invariant-loop-number l =
    l.out.items ++ spaced (map decimal (drop l.number-index l.numbers)) ≡ (l.fn.out.items ++ l.word)
    ++ spaced (map decimal l.numbers)
